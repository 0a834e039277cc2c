-- A numbered term by its cases.
use Rattle.std.proofs.Common.{◌≡◌, ℕ, zero, suc, ◌<◌, Bool, true, false, List, [], ◌∷◌, ◌++◌, length, get_or, refl, sym, ap, ◌∙◌, append_assoc, arith}
use Rattle.std.specs.Prelude.{if◌then◌else◌, map, slice_get, None, Some}
use Rattle.std.specs.Option.{option_map}
use Rattle.std.proofs.lemmas.List.{map-append}
use Rattle.nxf_tree.specs.declared.tree.Signature.{Signature}
use Rattle.nxf_tree.specs.declared.tree.SymbolEntry.{SymbolEntry}
use Rattle.nxf_tree.specs.declared.tree.Term.{Term, Var, App, Row_of-Term, end_of-Term, more_of-Term}
use Rattle.nxf_tree.specs.declared.tree.Term.TheBlock.{hidden-the_row-Term-0, items-the_row-Term, items_hidden-the_row-Term-0}
use Rattle.nxf_tree.specs.Names.{same_text, user_name, user_variable}
use Rattle.nxf_tree.specs.Counting.{has}
use Rattle.nxf_tree.specs.Signature.{is_flexible, flexible_designation}
use Rattle.nxf_tree.specs.Embedding.{at_world, st_term, st_terms}
use Rattle.nxf_tree.specs.WellFormed.{HasDifferentNames}
use Rattle.numbered_definitions.specs.declared.node.NTerm.{NTerm, Bound}
use Rattle.numbered_definitions.specs.declared.node.NTerm as numbered
use Rattle.numbered_definitions.specs.NamedForm.{both, variable, symbol_name, named_term, named_terms}
use Rattle.classical_syntax.proofs.CallerLemmas.{is_flexible-place}
use Rattle.nxf_translate.specs.steps.Forms.{HasTerm, HasTerms, IsTerm}
use Rattle.numbered_definitions.proofs.CallerLemmas.{mapped, joined}
use Rattle.nxf_translate.proofs.Rows.{of_App}

row_is : {m : _} (sig : Signature) (w : Term) (ts : Row_of-Term m) → st_terms sig w ts ≡ map (st_term sig w) (items-the_row-Term _ ts)
row_is sig w end_of-Term = refl
row_is sig w (more_of-Term t ts) = ap (λ us. st_term sig w t ∷ us) (row_is sig w ts)

-- the translation of an application
pub st_term_of_App : (sig : Signature) (w : Term) (f : List ℕ) (ts : List Term) → st_term sig w (App f ts) ≡ App (user_name f) (at_world (is_flexible sig f) w (map (st_term sig w) ts))
st_term_of_App sig w f ts =
    ap (λ us. App (user_name f) (at_world (is_flexible sig f) w us)) (row_is sig w (hidden-the_row-Term-0 ts) ∙ ap (map (st_term sig w)) (items_hidden-the_row-Term-0 ts))

-- the variable of a level stands at its place
variable-step : (b : Bool) (x y : List ℕ) → (if b then None else Some x) ≡ Some y → x ≡ y
variable-step true x y h = absurd cc
variable-step false x y h = cc

pub variable-place : (xs : List (List ℕ)) (k : ℕ) (y d : List ℕ) → variable xs k ≡ Some y → (k < length xs) × (get_or xs k d ≡ y)
variable-place [] k y d h = absurd cc
variable-place (x ∷ xs) zero y d h = (omega arith, variable-step (has same_text x xs) x y h)
variable-place (x ∷ xs) (suc k) y d h = let p = variable-place xs k y d h in (omega (arith, p.0), p.1)

-- a symbol that has a name stands at its place
pub place-of : {A : Type 0} (those : List A) (k : ℕ) (a : A) → slice_get those k ≡ Some a → k < length those
place-of [] k a h = absurd cc
place-of (b ∷ bs) zero a h = omega arith
place-of (b ∷ bs) (suc k) a h = omega (arith, place-of bs k a h)

pub named-place : {A N : Type 0} (name : A → N) (those : List A) (k : ℕ) (x : N) → option_map name (slice_get those k) ≡ Some x → k < length those
named-place name those k x h = mapped name (slice_get those k) x h (λ a e i. place-of those k a e)

pub named-at : {A N : Type 0} (name : A → N) (those : List A) (k : ℕ) (a : A) (x : N) → slice_get those k ≡ Some a → option_map name (slice_get those k) ≡ Some x → name a ≡ x
named-at name those k a x e h =
    let is : option_map name (Some a) ≡ Some x = ap (option_map name) (sym e) ∙ h in cc

pub in-front : (flexible : Bool) (w : Term) (ts : List Term) → at_world flexible w [] ++ ts ≡ at_world flexible w ts
in-front true w ts = refl
in-front false w ts = refl

module _ (sig : Signature) (xs : List (List ℕ)) where
  pub bound-place : (k : ℕ) → HasTerm sig xs (Bound k) → k < length xs
  bound-place k h = mapped Var (variable xs k) h.term h.named (λ x e i. (variable-place xs k x [] e).0)

  pub bound-is : (w : Term) (k : ℕ) (x : List ℕ) → x ≡ get_or xs k x → IsTerm sig xs w (Bound k) (Var (user_variable x))
  bound-is w k x at u h =
      mapped Var (variable xs k) u h
      (λ y e i. ap (λ z. Var (user_variable z)) (at ∙ (variable-place xs k y x e).1) ∙ ap (st_term sig w) i)

  pub app-arguments : (k : ℕ) (ns : List NTerm) → HasTerm sig xs (numbered.App k ns) → HasTerms sig xs ns
  app-arguments k ns h =
      joined App (symbol_name sig k) (named_terms sig xs ns) h.term (sym (of_App sig xs k ns) ∙ h.named) (λ f ts e i j. record { terms = ts; named = i })

  pub app-symbol : (k : ℕ) (ns : List NTerm) → HasTerm sig xs (numbered.App k ns) → k < length sig.symbols
  app-symbol k ns h =
      joined App (symbol_name sig k) (named_terms sig xs ns) h.term (sym (of_App sig xs k ns) ∙ h.named) (λ f ts e i j. named-place (λ (e : SymbolEntry). e.name) sig.symbols k f e)

  pub app-is : (w : Term) (k : ℕ) (ns : List NTerm) (entry : SymbolEntry) (ts : List Term) → HasDifferentNames sig → slice_get sig.symbols k ≡ Some entry
      → ((us : List Term) → named_terms sig xs ns ≡ Some us → ts ≡ at_world (flexible_designation entry.designation) w [] ++ map (st_term sig w) us)
      → IsTerm sig xs w (numbered.App k ns) (App (user_name entry.name) ts)
  app-is w k ns entry ts d at h u named =
      joined App (symbol_name sig k) (named_terms sig xs ns) u (sym (of_App sig xs k ns) ∙ named) (λ f us e i j.
      let name : entry.name ≡ f = named-at (λ (e : SymbolEntry). e.name) sig.symbols k entry f at e in
      (λ l. App (user_name entry.name) ((h us i ∙ in-front (flexible_designation entry.designation) w (map (st_term sig w) us)) l))
      ∙ (λ l. App (user_name entry.name) (at_world (sym (is_flexible-place sig d k entry at) l) w (map (st_term sig w) us)))
      ∙ ap (λ n. App (user_name n) (at_world (is_flexible sig n) w (map (st_term sig w) us))) name
      ∙ sym (st_term_of_App sig w f us)
      ∙ ap (st_term sig w) j)

-- one term more
pub terms-more : (sig : Signature) (xs : List (List ℕ)) (ns : List NTerm) (n : NTerm) (us : List Term) {P : Type 0} → named_terms sig xs (ns ++ n ∷ []) ≡ Some us
    → ((vs : List Term) (v : Term) → named_terms sig xs ns ≡ Some vs → named_term sig xs n ≡ Some v → vs ++ v ∷ [] ≡ us → P) → P
terms-more sig xs [] n us h k =
    joined (λ t ts. t ∷ ts) (named_term sig xs n) (Some []) us h (λ v vs e i j. k [] v refl e (ap (λ l. v ∷ l) (nothing vs i) ∙ j))
  where
    nothing : (vs : List Term) → Some [] ≡ Some vs → [] ≡ vs
    nothing vs i = cc
terms-more sig xs (m ∷ ns) n us h k =
    joined (λ t ts. t ∷ ts) (named_term sig xs m) (named_terms sig xs (ns ++ n ∷ [])) us h (λ u rest e i j.
    terms-more sig xs ns n rest i (λ vs v named last is.
    k (u ∷ vs) v (λ l. both (λ t ts. t ∷ ts) (e l) (named l)) last (ap (λ l. u ∷ l) is ∙ j)))

pub term-at : (sig : Signature) (xs : List (List ℕ)) (ns : List NTerm) (i : ℕ) (d : NTerm) → i < length ns → HasTerms sig xs ns → HasTerm sig xs (get_or ns i d)
term-at sig xs [] i d l h = absurd (omega arith)
term-at sig xs (n ∷ ns) zero d l h =
    joined (λ t ts. t ∷ ts) (named_term sig xs n) (named_terms sig xs ns) h.terms h.named (λ u us e i j. record { term = u; named = e })
term-at sig xs (n ∷ ns) (suc i) d l h =
    joined (λ t ts. t ∷ ts) (named_term sig xs n) (named_terms sig xs ns) h.terms h.named (λ u us e j q. term-at sig xs ns i d (omega arith) (record { terms = us; named = j }))

-- the translation of one term more
pub terms-step : (sig : Signature) (xs : List (List ℕ)) (w : Term) (ns : List NTerm) (n : NTerm) (made ts : List Term) (t : Term)
    → ((us : List Term) → named_terms sig xs ns ≡ Some us → ts ≡ made ++ map (st_term sig w) us) → IsTerm sig xs w n t
    → (us : List Term) → named_terms sig xs (ns ++ n ∷ []) ≡ Some us → ts ++ t ∷ [] ≡ made ++ map (st_term sig w) us
terms-step sig xs w ns n made ts t h k us named =
    terms-more sig xs ns n us named (λ vs v front last is.
    (λ l. h vs front l ++ k v last l ∷ [])
    ∙ append_assoc made (map (st_term sig w) vs) (st_term sig w v ∷ [])
    ∙ ap (λ rest. made ++ rest) (sym (map-append (st_term sig w) vs (v ∷ [])))
    ∙ ap (λ all. made ++ map (st_term sig w) all) is)
