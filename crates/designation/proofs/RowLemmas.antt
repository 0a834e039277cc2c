-- Rows that are written element by element.
use Rattle.std.proofs.Common.{◌≡◌, ℕ, ◌+◌, ◌<◌, List, [], ◌∷◌, ◌++◌, length, get_or, set, take, drop, sym, ap, subst, ◌∙◌, append_assoc, arith}
use Rattle.std.specs.Prelude.{map}
use Rattle.std.proofs.lemmas.List.{drop_more, take_more, take_more_set, take-set, take-take, map-append}
use Rattle.nxf_tree.specs.Counting.{all_below, implies}
use Rattle.nxf_tree.specs.Rows.{size_at}
use Rattle.fin_struct.specs.Places.{InRange}
use Rattle.fin_struct.specs.KripkeTables.{KripkeTables, exists_in}
use Rattle.designation.specs.steps.RowTests.{rows_pass, value_exists_at}

-- a row with one element more
in_range-push : (sizes row : List ℕ) (n x : ℕ) → InRange sizes row → x < n → InRange (sizes ++ n ∷ []) (row ++ x ∷ [])
in_range-push [] [] n x h below = (below, tt)
in_range-push [] (y ∷ row) n x h below = absurd h
in_range-push (size ∷ sizes) [] n x h below = absurd h
in_range-push (size ∷ sizes) (y ∷ row) n x h below = (h.0, in_range-push sizes row n x h.1 below)

pub begun-more : (size : ℕ → ℕ) (sorts row first : List ℕ) (place element : ℕ) → place < length sorts → place < length row → take place row ≡ take place first → InRange (map size (take place sorts)) (take place first) → element < size (get_or sorts place 0)
    → InRange (map size (take (place + 1) sorts)) (take (place + 1) (set row place element))
begun-more size sorts row first place element in_sorts in_row kept h below =
    let sizes : map size (take place sorts) ++ size (get_or sorts place 0) ∷ [] ≡ map size (take (place + 1) sorts) =
    sym (ap (map size) (take_more sorts place 0 in_sorts) ∙ map-append size (take place sorts) (get_or sorts place 0 ∷ [])) in
    let elements : take place first ++ element ∷ [] ≡ take (place + 1) (set row place element) = ap (λ xs. xs ++ element ∷ []) (sym kept) ∙ sym (take_more_set row place element in_row) in
    subst (λ (xs : List ℕ). InRange xs (take (place + 1) (set row place element))) sizes
    (subst (λ (xs : List ℕ). InRange (map size (take place sorts) ++ size (get_or sorts place 0) ∷ []) xs) elements (in_range-push (map size (take place sorts)) (take place first) _ _ h below))

-- the row's front after an element was written, and after a call wrote elements from there on
pub kept-set : (row after first : List ℕ) (place element : ℕ) → take (place + 1) after ≡ take (place + 1) (set row place element) → take place row ≡ take place first → take place after ≡ take place first
kept-set row after first place element kept e =
    sym (take-take place (place + 1) after (omega arith)) ∙ ap (take place) kept ∙ take-take place (place + 1) (set row place element) (omega arith) ∙ take-set row place element ∙ e

-- the rows that begin with the front and an element
pub rows-next : (view : KripkeTables) (f r w : ℕ) (ss row first : List ℕ) (place element : ℕ) → place < length row → take place row ≡ take place first
    → rows_pass view w ss (λ rest. value_exists_at view f r w (take (place + 1) (set row place element) ++ rest)) ≡ rows_pass view w ss (λ rest. value_exists_at view f r w (take place first ++ element ∷ rest))
rows-next view f r w ss row first place element below kept =
    let front : (rest : List ℕ) → take (place + 1) (set row place element) ++ rest ≡ take place first ++ element ∷ rest =
    λ rest. ap (λ xs. xs ++ rest) (take_more_set row place element below ∙ ap (λ xs. xs ++ element ∷ []) kept) ∙ append_assoc (take place first) (element ∷ []) rest in
    λ j. rows_pass view w ss (λ rest. value_exists_at view f r w (front rest j))

-- the rows that begin with the front, by their next element
pub rows-by : (view : KripkeTables) (f r w : ℕ) (sorts first : List ℕ) (place : ℕ) → place < length sorts
    → rows_pass view w (drop place sorts) (λ rest. value_exists_at view f r w (take place first ++ rest))
    ≡ all_below (size_at view.sizes (get_or sorts place 0)) (λ a. implies (exists_in view (get_or sorts place 0) w a) (rows_pass view w (drop (place + 1) sorts) (λ rest. value_exists_at view f r w (take place first ++ a ∷ rest))))
rows-by view f r w sorts first place below = ap (λ ss. rows_pass view w ss (λ rest. value_exists_at view f r w (take place first ++ rest))) (drop_more sorts place 0 below)
