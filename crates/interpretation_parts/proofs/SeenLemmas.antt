-- One step more of a walk that notes texts in a set.
use Rattle.std.proofs.Common.{◌≡◌, ◌<◌, ◌≤◌, ℕ, ◌+◌, Bool, List, [], ◌∷◌, ◌++◌, map, take, length, get_or, refl, ap, ◌∙◌, sym}
use Rattle.std.specs.Prelude.{◌||◌, not}
use Rattle.std.specs.List.{list_any}
use Rattle.std.proofs.lemmas.List.{take_all, take_more}
use Rattle.std.proofs.lemmas.List.Sums.{fold-append}
use Rattle.indexmap.specs.IndexSet.{insert_key, insert_all}
use Rattle.nxf_tree.specs.Counting.{all_different}
use Rattle.nxf_tree.specs.Names.{same_text}
use Rattle.interpretation_definitions.specs.declared.element.Element.{Element}
use Rattle.interpretation_definitions.specs.Judging.{same_element}
use Rattle.interpretation_parts.specs.steps.Tables.{pair_of, repeated}
use Rattle.interpretation_parts.proofs.ItemLemmas.{map-append}
use Rattle.interpretation_parts.proofs.SetLemmas.{repeated-last, repeated_pairs}

pub mapped_more : {A B : Type 0} (f : A → B) (xs : List A) (i : ℕ) (d x : A) → i < length xs → x ≡ get_or xs i d → map f (take (i + 1) xs) ≡ map f (take i xs) ++ f x ∷ []
mapped_more f xs i d x lt is = ap (map f) (take_more xs i d lt) ∙ map-append f (take i xs) (get_or xs i d ∷ []) ∙ ap (λ y. map f (take i xs) ++ f y ∷ []) (sym is)

pub seen_next : (initial keys new xs : List (List ℕ)) (x key : List ℕ) → keys ≡ insert_all same_text initial xs → key ≡ x → new ≡ insert_key same_text keys key
    → new ≡ insert_all same_text initial (xs ++ x ∷ [])
seen_next initial keys new xs x key before is now =
    now ∙ ap (λ k. insert_key same_text keys k) is ∙ ap (λ ks. insert_key same_text ks x) before ∙ sym (fold-append (insert_key same_text) initial xs (x ∷ []))

pub repeat_next : (initial keys xs : List (List ℕ)) (x key : List ℕ) (repeat known : Bool) → keys ≡ insert_all same_text initial xs → key ≡ x → repeat ≡ repeated initial xs
    → known ≡ list_any (same_text key) keys → repeat || known ≡ repeated initial (xs ++ x ∷ [])
repeat_next initial keys xs x key repeat known before is so_far now =
    ap (λ b. b || known) so_far ∙ ap (λ b. repeated initial xs || b) (now ∙ ap (λ k. list_any (same_text k) keys) is ∙ ap (list_any (same_text x)) before) ∙ sym (repeated-last initial xs x)

-- the same for the pairs of elements
pub seen_pairs : (es : List Element) (i : ℕ) (d : Element) (keys new : List (List ℕ)) (key : List ℕ) → i < length es → keys ≡ insert_all same_text [] (map pair_of (take i es))
    → key ≡ (get_or es i d).sort ∷ (get_or es i d).number ∷ [] → new ≡ insert_key same_text keys key → new ≡ insert_all same_text [] (map pair_of (take (i + 1) es))
seen_pairs es i d keys new key lt before is now =
    seen_next [] keys new (map pair_of (take i es)) (pair_of (get_or es i d)) key before is now ∙ ap (insert_all same_text []) (sym (mapped_more pair_of es i d (get_or es i d) lt refl))

pub repeat_pairs : (es : List Element) (i : ℕ) (d : Element) (keys : List (List ℕ)) (key : List ℕ) (repeat known : Bool) → i < length es → keys ≡ insert_all same_text [] (map pair_of (take i es))
    → key ≡ (get_or es i d).sort ∷ (get_or es i d).number ∷ [] → repeat ≡ repeated [] (map pair_of (take i es)) → known ≡ list_any (same_text key) keys → repeat || known ≡ repeated [] (map pair_of (take (i + 1) es))
repeat_pairs es i d keys key repeat known lt before is so_far now =
    repeat_next [] keys (map pair_of (take i es)) (pair_of (get_or es i d)) key repeat known before is so_far now ∙ ap (repeated []) (sym (mapped_more pair_of es i d (get_or es i d) lt refl))

pub repeat_done : (es : List Element) (i : ℕ) (repeat : Bool) → length es ≤ i → repeat ≡ repeated [] (map pair_of (take i es)) → repeat ≡ not (all_different same_element es)
repeat_done es i repeat le h = h ∙ ap (λ l. repeated [] (map pair_of l)) (take_all i es le) ∙ repeated_pairs es
