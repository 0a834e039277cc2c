-- What a buffer held stays at its front while texts are appended.
use Rattle.std.proofs.Common.{◌≡◌, ℕ, List, ◌++◌, length, take, drop, ap, sym, ◌∙◌, append_assoc}
use Rattle.std.specs.Prelude.{Result, Ok, Err, OnErr}
use Rattle.std.proofs.lemmas.List.{take-append-drop}
use Rattle.std.proofs.lemmas.Result.{on_err_weaker}
use Rattle.std.proofs.Math.Seq.{take-append_seam, take-length}
use Rattle.std.specs.Io.{StartsWith}

-- nothing was appended
pub starts_same : (old new : List ℕ) → new ≡ old → StartsWith new old
starts_same old new h = ap (take (length old)) h ∙ take-length old

-- something was appended, and then what was held stayed
pub starts_after : (old mid new a : List ℕ) → mid ≡ old ++ a → StartsWith new mid → StartsWith new old
starts_after old mid new a h s =
    let rest = drop (length mid) new in
    ap (take (length old)) (sym (take-append-drop (length mid) new) ∙ ap (λ text. text ++ rest) (s ∙ h) ∙ append_assoc old a rest) ∙ take-append_seam old (a ++ rest)

-- the same of what is known after an error alone
pub kept_after : {T E : Type 0} (r : Result T E) (old mid new a : List ℕ) → mid ≡ old ++ a → OnErr r (StartsWith new mid) → OnErr r (StartsWith new old)
kept_after r old mid new a h = on_err_weaker r (starts_after old mid new a h)

-- what holds anyway holds after an error
pub after_error : {T E P : Type 0} (r : Result T E) → P → OnErr r P
after_error (Ok x) p = tt
after_error (Err e) p = p
