-- Rows that are given, and the elements of arguments.
use Rattle.std.proofs.Common.{◌≡◌, ℕ, Bool, true, false, List, [], ◌∷◌, ◌++◌, map, Option, None, Some, refl, ap, ◌∙◌, sym}
use Rattle.std.specs.Prelude.{if◌then◌else◌, ◌&&◌, nat_eq, not}
use Rattle.std.specs.List.{cons_option}
use Rattle.std.specs.Map.{lookup}
use Rattle.std.specs.Option.{option_or}
use Rattle.std.proofs.lemmas.List.{append_assoc}
use Rattle.std.proofs.lemmas.Bool.{eqb-true}
use Rattle.nxf_tree.specs.declared.tree.Term.{Term}
use Rattle.nxf_tree.specs.Names.{same_text}
use Rattle.interpretation_definitions.specs.declared.element.Element.{Element}
use Rattle.interpretation_definitions.specs.Parts.{Argument, argument}
use Rattle.nxf_tree.specs.declared.tree.TableEntry.{TableEntry}
use Rattle.std.specs.List.{list_any, list_all}
use Rattle.std.proofs.Common.{length, suc}
use Rattle.std.specs.Prelude.{◌||◌, is_some}
use Rattle.interpretation_definitions.specs.declared.fault.PartFault.{PartFault}
use Rattle.interpretation_definitions.specs.Context.{Context, symbol, is_extra, is_sort, is_listed, is_unknown}
use Rattle.interpretation_definitions.specs.Given.{Given, value_in, element_of, elements_of, numbers_of}
use Rattle.interpretation_definitions.specs.Judging.{sorts_of, is_other, tried, unless_dropped, is_unlisted, value_clash, equation_clash, equation_fault, equation_form, equation_tried}
use Rattle.interpretation_parts.specs.steps.Tables.{written}
use Rattle.interpretation_parts.specs.steps.Held.{HasRows, one_of, clash_if}
use Rattle.interpretation_parts.proofs.ItemLemmas.{map-append}
use Rattle.interpretation_parts.proofs.TableLemmas.{same_text-true, same_text-sym}

pub elements-last : (context : Context) (args : List Argument) (arg : Argument) → elements_of context (args ++ arg ∷ []) ≡ elements_of context args ++ one_of (element_of context arg)
elements-last context [] arg = by (element_of context arg)
  where
    by : (o : Option Element) → cons_option o [] ≡ one_of o
    by None = refl
    by (Some e) = refl
elements-last context (a ∷ args) arg = by (element_of context a) (elements-last context args arg)
  where
    by : (o : Option Element) → elements_of context (args ++ arg ∷ []) ≡ elements_of context args ++ one_of (element_of context arg)
        → cons_option o (elements_of context (args ++ arg ∷ [])) ≡ cons_option o (elements_of context args) ++ one_of (element_of context arg)
    by None h = h
    by (Some e) h = ap (λ l. e ∷ l) h

pub elements-next : (context : Context) (ts : List Term) (t : Term) (o : Option Element) → o ≡ element_of context (argument t) → elements_of context (map argument (ts ++ t ∷ [])) ≡ elements_of context (map argument ts) ++ one_of o
elements-next context ts t o h =
    ap (elements_of context) (map-append argument ts (t ∷ [])) ∙ elements-last context (map argument ts) (argument t) ∙ ap (λ p. elements_of context (map argument ts) ++ one_of p) (sym h)

pub sorts-next : (context : Context) (ts : List Term) (t : Term) (old : List ℕ) (o : Option Element) → o ≡ element_of context (argument t)
    → (old ++ sorts_of (elements_of context (map argument ts))) ++ sorts_of (one_of o) ≡ old ++ sorts_of (elements_of context (map argument (ts ++ t ∷ [])))
sorts-next context ts t old o h =
    append_assoc old _ _
    ∙ ap (λ l. old ++ l) (sym (ap sorts_of (elements-next context ts t o h) ∙ map-append (λ (e : Element). e.sort) (elements_of context (map argument ts)) (one_of o)))

pub numbers-next : (context : Context) (ts : List Term) (t : Term) (old : List ℕ) (o : Option Element) → o ≡ element_of context (argument t)
    → (old ++ numbers_of (elements_of context (map argument ts))) ++ numbers_of (one_of o) ≡ old ++ numbers_of (elements_of context (map argument (ts ++ t ∷ [])))
numbers-next context ts t old o h =
    append_assoc old _ _
    ∙ ap (λ l. old ++ l) (sym (ap numbers_of (elements-next context ts t o h) ∙ map-append (λ (e : Element). e.number) (elements_of context (map argument ts)) (one_of o)))

-- one row more
value-last : (given : List Given) (g : Given) (place : ℕ) (row : List ℕ)
    → value_in (given ++ g ∷ []) place row ≡ option_or (value_in given place row) (if nat_eq g.place place && same_text g.row row then Some g.value else None)
value-last [] g place row = refl
value-last (h ∷ given) g place row = by (nat_eq h.place place && same_text h.row row) (value-last given g place row)
  where
    by : (b : Bool) → value_in (given ++ g ∷ []) place row ≡ option_or (value_in given place row) (if nat_eq g.place place && same_text g.row row then Some g.value else None)
        → (if b then Some h.value else value_in (given ++ g ∷ []) place row) ≡ option_or (if b then Some h.value else value_in given place row) (if nat_eq g.place place && same_text g.row row then Some g.value else None)
    by true k = refl
    by false k = k

agrees : (o : Option ℕ) (value : ℕ) → is_other o value ≡ false → Some value ≡ option_or o (Some value)
agrees None value h = refl
agrees (Some old) value h = ap Some (sym (eqb-true old value (yes (nat_eq old value) h)))
  where
    yes : (b : Bool) → not b ≡ false → b ≡ true
    yes true k = refl
    yes false k = cc

pub has_rows_next : (old new : List (List ℕ × ℕ)) (given : List Given) (g : Given) → HasRows old given → is_other (value_in given g.place g.row) g.value ≡ false
    → ((q : List ℕ) → lookup (same_text q) new ≡ written q (g.place ∷ g.row) g.value (lookup (same_text q) old)) → HasRows new (given ++ g ∷ [])
has_rows_next old new given g has other writes place row =
    writes (place ∷ row) ∙ ap (written (place ∷ row) (g.place ∷ g.row) g.value) (has place row)
    ∙ by (same_text (place ∷ row) (g.place ∷ g.row)) refl
    ∙ sym (value-last given g place row ∙ ap (λ b. option_or (value_in given place row) (if b then Some g.value else None)) (same_text-sym (g.place ∷ g.row) (place ∷ row)))
  where
    nothing : (o : Option ℕ) → o ≡ option_or o None
    nothing None = refl
    nothing (Some x) = refl

    at : List ℕ → Option ℕ
    at [] = None
    at (p ∷ r) = value_in given p r

    by : (b : Bool) → same_text (place ∷ row) (g.place ∷ g.row) ≡ b → (if b then Some g.value else value_in given place row) ≡ option_or (value_in given place row) (if b then Some g.value else None)
    by true h = agrees (value_in given g.place g.row) g.value other ∙ ap (λ o. option_or o (Some g.value)) (sym (ap at (same_text-true (place ∷ row) (g.place ∷ g.row) h)))
    by false h = nothing (value_in given place row)

-- the tries, where the early ones have a fault or none
pub tried_early : (a b c d : Bool) (f : PartFault) → tried a b c false ≡ Some f → tried a b c d ≡ Some f
tried_early true b c d f h = h
tried_early false true c d f h = h
tried_early false false true d f h = h
tried_early false false false d f h = cc

pub tried_late : (a b c d : Bool) → tried a b c false ≡ None → tried a b c d ≡ clash_if d
tried_late true b c d h = cc
tried_late false true c d h = cc
tried_late false false true d h = cc
tried_late false false false d h = refl

-- an extra name is no known symbol
pub extra_unknown : (context : Context) (p : List ℕ) → is_extra context p ≡ true → symbol context p ≡ None
extra_unknown context p h = by (list_any (same_text p) context.declared) (symbol context p) h
  where
    by : (b : Bool) (o : Option (ℕ × TableEntry)) → b && not (is_some o || is_sort context p) && not (is_listed context p) ≡ true → o ≡ None
    by b None k = refl
    by true (Some s) k = cc
    by false (Some s) k = cc

pub map_length : {A B : Type 0} (g : A → B) (xs : List A) → length xs ≡ length (map g xs)
map_length g [] = refl
map_length g (x ∷ xs) = ap suc (map_length g xs)

-- an equation that is not dropped, and has no fault of form, symbol or element
pub equation_late : (context : Context) (given : List Given) (f : List ℕ) (args : List Argument) (value : Argument) (o : Option (ℕ × TableEntry)) (known : ℕ × TableEntry)
    → is_extra context f ≡ false → o ≡ symbol context f → o ≡ Some known → equation_tried context o f args value false ≡ None
    → equation_fault context given f args value ≡ clash_if (value_clash given known known.1.gives (elements_of context args) (element_of context value))
equation_late context given f args value o known extra there is early =
    ap (λ b. unless_dropped b (equation_tried context (symbol context f) f args value (clash (symbol context f)))) extra
    ∙ ap (λ p. equation_tried context p f args value (clash p)) (sym there)
    ∙ tried_late (equation_form context o f args value) (is_unknown context f) (list_any (is_unlisted context) args || is_unlisted context value) (clash o) early
    ∙ ap (λ p. clash_if (clash p)) is
  where
    clash : Option (ℕ × TableEntry) → Bool
    clash p = equation_clash given p (elements_of context args) (element_of context value)
