-- The axioms of one index more.
use Rattle.std.proofs.Common.{◌≡◌, List, [], ◌∷◌, ◌++◌, refl, sym, ap, ◌∙◌, append_assoc, append-nil}
use Rattle.std.specs.Prelude.{map}
use Rattle.nxf_tree.specs.declared.tree.IndexEntry.{IndexEntry}
use Rattle.nxf_tree.specs.Axioms.{frame_axiom, frame_axioms}

pub frame_axioms-append : (xs ys : List IndexEntry) → frame_axioms (xs ++ ys) ≡ frame_axioms xs ++ frame_axioms ys
frame_axioms-append [] ys = refl
frame_axioms-append (x ∷ xs) ys =
    ap (λ rest. map (frame_axiom x.name) x.schemes ++ rest) (frame_axioms-append xs ys)
    ∙ sym (append_assoc (map (frame_axiom x.name) x.schemes) (frame_axioms xs) (frame_axioms ys))

pub frame_axioms-more : (xs : List IndexEntry) (x : IndexEntry) → frame_axioms (xs ++ x ∷ []) ≡ frame_axioms xs ++ map (frame_axiom x.name) x.schemes
frame_axioms-more xs x = frame_axioms-append xs (x ∷ []) ∙ ap (λ rest. frame_axioms xs ++ rest) (append-nil (map (frame_axiom x.name) x.schemes))
