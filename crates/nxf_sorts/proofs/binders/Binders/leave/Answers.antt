use Rattle.std.proofs.Common.{ap, ◌∙◌, sym, subst, cond}
use Rattle.std.specs.Map.{lookup}
use Rattle.nxf_tree.specs.Names.{same_text}
use Rattle.nxf_sorts.specs.steps.InStep.{IsInStep}
use Rattle.nxf_sorts.proofs.ScopeLemmas.{left, is_bound, settled}
use Rattle.nxf_sorts.proofs.binders.Binders.leave.Goals as goal

pub invariant_of-self : goal.invariant_of-self
invariant_of-self c =
    let step = subst (λ s. IsInStep s c.self.inside.innermost.entries) c.in-Some.ensures.items c.self.invariant in
    let updates = settled c.insert.result c.insert.ensures.updates c.insert.ensures.absent (is_bound _ c.in-Some.binder c.self.inside.innermost.entries c.self.inside.innermost.entries step) in
    left _ c.in-Some.binder _ _ step (λ x. updates.0 x ∙ ap (λ o. cond (same_text c.in-Some.binder.name x) o (lookup (same_text x) c.self.inside.innermost.entries)) (sym c.in-Some-hidden.is))

pub invariant_of-self-after-insert-2 : goal.invariant_of-self-after-insert-2
invariant_of-self-after-insert-2 c =
    let step = subst (λ s. IsInStep s c.self.inside.innermost.entries) c.in-Some.ensures.items c.self.invariant in
    let updates = settled c.insert.result c.insert.ensures.updates c.insert.ensures.absent (is_bound _ c.in-Some.binder c.self.inside.innermost.entries c.self.inside.innermost.entries step) in
    left _ c.in-Some.binder _ _ step (λ x. updates.0 x ∙ ap (λ o. cond (same_text c.in-Some.binder.name x) o (lookup (same_text x) c.self.inside.innermost.entries)) (sym c.in-Some-hidden.is))

pub invariant_of-self-after-insert-3 : goal.invariant_of-self-after-insert-3
invariant_of-self-after-insert-3 c =
    let step = subst (λ s. IsInStep s c.self.inside.innermost.entries) c.in-Some.ensures.items c.self.invariant in
    let updates = settled c.insert.result c.insert.ensures.updates c.insert.ensures.absent (is_bound _ c.in-Some.binder c.self.inside.innermost.entries c.self.inside.innermost.entries step) in
    left _ c.in-Some.binder _ _ step (λ x. updates.0 x ∙ ap (λ o. cond (same_text c.in-Some.binder.name x) o (lookup (same_text x) c.self.inside.innermost.entries)) (sym c.in-Some-hidden.is))

pub invariant_of-self-in-None : goal.invariant_of-self-in-None
invariant_of-self-in-None c =
    let step = subst (λ s. IsInStep s c.self.inside.innermost.entries) c.in-Some.ensures.items c.self.invariant in
    left _ c.in-Some.binder _ _ step (λ x. c.swap_remove.ensures.updates.0 x ∙ ap (λ o. cond (same_text c.in-Some.binder.name x) o (lookup (same_text x) c.self.inside.innermost.entries)) (sym c.in-None.is))

pub invariant_of-self-in-None-2 : goal.invariant_of-self-in-None-2
invariant_of-self-in-None-2 c =
    let step = subst (λ s. IsInStep s c.self.inside.innermost.entries) c.in-Some.ensures.items c.self.invariant in
    left _ c.in-Some.binder _ _ step (λ x. c.swap_remove.ensures.updates.0 x ∙ ap (λ o. cond (same_text c.in-Some.binder.name x) o (lookup (same_text x) c.self.inside.innermost.entries)) (sym c.in-None.is))
