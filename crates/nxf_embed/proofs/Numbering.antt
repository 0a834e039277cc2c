-- Axioms under their numbers.
use Rattle.std.proofs.Common.{◌≡◌, ℕ, suc, ◌+◌, List, [], ◌∷◌, ◌++◌, length, sym, ap, ◌∙◌, append_assoc, arith}
use Rattle.std.specs.Prelude.{codes}
use Rattle.nxf_tree.specs.declared.tree.Formula.{Formula}
use Rattle.nxf_tree.specs.declared.tree.Statement.{Statement}
use Rattle.nxf_tree.specs.Names.{axiom_name}
use Rattle.nxf_tree.specs.Problem.{statement_of, axiom_statements}

pub axiom_statements-append : (n : ℕ) (fs gs : List Formula) → axiom_statements n (fs ++ gs) ≡ axiom_statements n fs ++ axiom_statements (n + length fs) gs
axiom_statements-append n [] gs = ap (λ k. axiom_statements k gs) (omega arith)
axiom_statements-append n (f ∷ fs) gs =
    ap (λ rest. statement_of (axiom_name n) (codes "axiom") f ∷ rest)
    (axiom_statements-append (suc n) fs gs ∙ ap (λ k. axiom_statements (suc n) fs ++ axiom_statements k gs) (omega arith))

-- three lists of axioms one after another
pub three-lists : (fs gs hs : List Formula) (before first second third : List Statement) (n m : ℕ)
    → first ≡ before ++ axiom_statements 1 fs → n ≡ 1 + length fs
    → second ≡ first ++ axiom_statements n gs → m ≡ n + length gs
    → third ≡ second ++ axiom_statements m hs
    → third ≡ before ++ axiom_statements 1 (fs ++ (gs ++ hs))
three-lists fs gs hs before first second third n m a p b q e =
    let rest : axiom_statements n (gs ++ hs) ≡ axiom_statements n gs ++ axiom_statements m hs =
    axiom_statements-append n gs hs ∙ ap (λ k. axiom_statements n gs ++ axiom_statements k hs) (sym q) in
    let all : axiom_statements 1 (fs ++ (gs ++ hs)) ≡ axiom_statements 1 fs ++ (axiom_statements n gs ++ axiom_statements m hs) =
    axiom_statements-append 1 fs (gs ++ hs) ∙ ap (λ k. axiom_statements 1 fs ++ axiom_statements k (gs ++ hs)) (sym p) ∙ ap (λ ss. axiom_statements 1 fs ++ ss) rest in
    e
    ∙ ap (λ ss. ss ++ axiom_statements m hs) b
    ∙ append_assoc first (axiom_statements n gs) (axiom_statements m hs)
    ∙ ap (λ ss. ss ++ (axiom_statements n gs ++ axiom_statements m hs)) a
    ∙ append_assoc before (axiom_statements 1 fs) (axiom_statements n gs ++ axiom_statements m hs)
    ∙ ap (λ ss. before ++ ss) (sym all)

-- one axiom more
pub one-more : (made before left : List Statement) (axioms rest : List Formula) (this : Formula) (n m : ℕ) → axioms ≡ this ∷ rest → m ≡ n + 1
    → left ≡ made ++ axiom_statements n (this ∷ []) → made ++ axiom_statements n axioms ≡ before → left ++ axiom_statements m rest ≡ before
one-more made before left axioms rest this n m is next e h =
    let k : m ≡ suc n = omega arith in
    ap (λ ss. ss ++ axiom_statements m rest) e
    ∙ append_assoc made (axiom_statements n (this ∷ [])) (axiom_statements m rest)
    ∙ ap (λ j. made ++ (axiom_statements n (this ∷ []) ++ axiom_statements j rest)) k
    ∙ ap (λ all. made ++ axiom_statements n all) (sym is)
    ∙ h
