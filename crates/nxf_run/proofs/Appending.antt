-- Bytes that a sink took, one piece after another.
use Rattle.std.proofs.Common.{◌≡◌, ℕ, List, [], ◌++◌, Option, Some, None, ap, ◌∙◌, append_assoc, append-nil}
use Rattle.nxf_base.specs.Write.{Appends}

pub appends_more : (before mid now : Option (List ℕ)) (done more : List ℕ) → Appends before mid done → Appends mid now more → Appends before now (done ++ more)
appends_more None mid now done more a b = tt
appends_more (Some held) None now done more a b = absurd (cc)
appends_more (Some held) (Some other) now done more a b =
    let e : other ≡ held ++ done = cc in
    b ∙ ap (λ bytes. Some (bytes ++ more)) e ∙ ap Some (append_assoc held done more)

pub appends_none : (before : Option (List ℕ)) → Appends before before []
appends_none None = tt
appends_none (Some held) = ap Some (simp append-nil)
