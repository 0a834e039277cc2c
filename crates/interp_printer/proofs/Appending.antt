-- What was appended piece by piece was appended as a whole, and a list with one more member.
use Rattle.std.proofs.Common.{◌≡◌, ℕ, zero, suc, ◌+◌, ◌<◌, ◌≤◌, List, [], ◌∷◌, ◌++◌, map, length, take, get_or, refl, sym, ap, ◌∙◌, append_assoc, append-nil, add-one, arith}
use Rattle.std.specs.Prelude.{flat_map}
use Rattle.std.specs.List.{join_by}
use Rattle.std.proofs.lemmas.Grind.{flat_map-append}
use Rattle.std.proofs.lemmas.List.{length-append, map-append}
use Rattle.nxf_tree.specs.Rows.{numbers_below, beside}
use Rattle.text_writer.specs.Members.{before_member}

-- ---- pieces

-- the last piece is still to be appended
pub after_one : (old a b mid : List ℕ) → mid ≡ old ++ a → old ++ (a ++ b) ≡ mid ++ b
after_one old a b mid e = sym (append_assoc old a b) ∙ ap (λ text. text ++ b) (sym e)

pub two_put : (old a b mid new : List ℕ) → mid ≡ old ++ a → new ≡ mid ++ b → new ≡ old ++ (a ++ b)
two_put old a b mid new e f = f ∙ sym (after_one old a b mid e)

pub three_put : (old a b c mid next new : List ℕ) → mid ≡ old ++ a → next ≡ mid ++ b → new ≡ next ++ c → new ≡ old ++ (a ++ b ++ c)
three_put old a b c mid next new e f g = two_put old (a ++ b) c next new (two_put old a b mid next e f) g

pub four_put : (old a b c d mid next last new : List ℕ) → mid ≡ old ++ a → next ≡ mid ++ b → last ≡ next ++ c → new ≡ last ++ d → new ≡ old ++ (a ++ b ++ c ++ d)
four_put old a b c d mid next last new e f g h = two_put old (a ++ b ++ c) d last new (three_put old a b c mid next last e f g) h

pub five_put : (old a b c d e m1 m2 m3 m4 new : List ℕ) → m1 ≡ old ++ a → m2 ≡ m1 ++ b → m3 ≡ m2 ++ c → m4 ≡ m3 ++ d → new ≡ m4 ++ e → new ≡ old ++ (a ++ b ++ c ++ d ++ e)
five_put old a b c d e m1 m2 m3 m4 new h i j k l = two_put old (a ++ b ++ c ++ d) e m4 new (four_put old a b c d m1 m2 m3 m4 h i j k) l

-- ---- one member more

joined_more : {A : Type 0} (g : A → List ℕ) (sep : List ℕ) (xs : List A) (x : A) → join_by g sep (xs ++ x ∷ []) ≡ join_by g sep xs ++ before_member sep (length xs) ++ g x
joined_more g sep [] x = append-nil (g x)
joined_more g sep (y ∷ ys) x =
    ap (λ rest. g y ++ rest) (flat_map-append (λ z. sep ++ g z) ys (x ∷ []) ∙ ap (λ last. flat_map (λ z. sep ++ g z) ys ++ last) (append-nil (sep ++ g x)))
    ∙ sym (append_assoc (g y) (flat_map (λ z. sep ++ g z) ys) (sep ++ g x))
    ∙ sym (append_assoc (g y ++ flat_map (λ z. sep ++ g z) ys) sep (g x))

-- a list of members that is longer by one
pub member_put : {A : Type 0} (g : A → List ℕ) (sep : List ℕ) (xs : List A) (x : A) (n : ℕ) (old mid led new : List ℕ)
    → length xs ≡ n → mid ≡ old ++ join_by g sep xs → led ≡ mid ++ before_member sep n → new ≡ led ++ g x → new ≡ old ++ join_by g sep (xs ++ x ∷ [])
member_put g sep xs x n old mid led new len e f h =
    three_put old (join_by g sep xs) (before_member sep (length xs)) (g x) mid led new e (f ∙ ap (λ k. mid ++ before_member sep k) (sym len)) h
    ∙ ap (λ text. old ++ text) (sym (joined_more g sep xs x))

-- the same of texts one after another
pub one_more : {A : Type 0} (g : A → List ℕ) (xs : List A) (x : A) (old mid new : List ℕ) → mid ≡ old ++ flat_map g xs → new ≡ mid ++ g x → new ≡ old ++ flat_map g (xs ++ x ∷ [])
one_more g xs x old mid new e f =
    two_put old (flat_map g xs) (g x) mid new e f ∙ ap (λ text. old ++ text) (ap (λ last. flat_map g xs ++ last) (sym (append-nil (g x))) ∙ sym (flat_map-append g xs (x ∷ [])))

-- ---- numbered members

pub numbers_more : (n : ℕ) → numbers_below (n + 1) ≡ numbers_below n ++ n ∷ []
numbers_more n = ap numbers_below (add-one n)

pub numbered_more : {A : Type 0} (f : ℕ → A) (n : ℕ) → map f (numbers_below (n + 1)) ≡ map f (numbers_below n) ++ f n ∷ []
numbered_more f n = ap (map f) (numbers_more n) ∙ map-append f (numbers_below n) (n ∷ [])

pub numbers_count : (n : ℕ) → length (numbers_below n) ≡ n
numbers_count zero = refl
numbers_count (suc n) = omega (arith, length-append (numbers_below n) (n ∷ []), numbers_count n)

-- ---- two lists side by side

beside_step : {N A : Type 0} (ns : List N) (xs : List A) (i : ℕ) (d : N) (e : A) → i < length ns → i < length xs
    → beside (take (suc i) ns) (take (suc i) xs) ≡ beside (take i ns) (take i xs) ++ (get_or ns i d, get_or xs i e) ∷ []
beside_step [] xs i d e p q = absurd (omega arith)
beside_step (n ∷ ns) [] i d e p q = absurd (omega arith)
beside_step (n ∷ ns) (x ∷ xs) zero d e p q = refl
beside_step (n ∷ ns) (x ∷ xs) (suc i) d e p q = ap (λ rest. (n, x) ∷ rest) (beside_step ns xs i d e (omega arith) (omega arith))

pub beside_more : {N A : Type 0} (ns : List N) (xs : List A) (i : ℕ) (d : N) (e : A) → i < length ns → i < length xs
    → beside (take (i + 1) ns) (take (i + 1) xs) ≡ beside (take i ns) (take i xs) ++ (get_or ns i d, get_or xs i e) ∷ []
beside_more ns xs i d e p q = ap (λ k. beside (take k ns) (take k xs)) (add-one i) ∙ beside_step ns xs i d e p q

pub beside_count : {N A : Type 0} (ns : List N) (xs : List A) (i : ℕ) → i ≤ length ns → i ≤ length xs → length (beside (take i ns) (take i xs)) ≡ i
beside_count ns xs zero p q = refl
beside_count [] xs (suc i) p q = absurd (omega arith)
beside_count (n ∷ ns) [] (suc i) p q = absurd (omega arith)
beside_count (n ∷ ns) (x ∷ xs) (suc i) p q = ap suc (beside_count ns xs i (omega arith) (omega arith))
