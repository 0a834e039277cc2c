use Rattle.std.proofs.Common.{◌≡◌, Some, ◌∙◌, sym, subst, cond}
use Rattle.std.specs.Map.{lookup}
use Rattle.nxf_tree.specs.Names.{same_text}
use Rattle.nxf_sorts.specs.declared.binders.Binder.{Binder}
use Rattle.nxf_sorts.specs.steps.Scope.{found}
use Rattle.nxf_sorts.specs.steps.InStep.{scope_of, IsInStep}
use Rattle.nxf_sorts.proofs.ScopeLemmas.{entered}
use Rattle.nxf_sorts.proofs.binders.Binders.enter.Goals as goal

pub invariant_of-self-in-Ok : goal.invariant_of-self-in-Ok
invariant_of-self-in-Ok c =
    let b : Binder = record { name = c.in_ok-copy.field-0; sort = c.args.sort; hidden = c.find-hidden.result } in
    let hides : c.find-hidden.result ≡ found (scope_of c.self.inside.stack.items) c.in_ok-copy.field-0 = c.find-hidden.ensures ∙ (λ i. found (sym c.self.view_is i) (sym c.in_ok-copy.ensures i)) in
    let same : c.in_ok-key.key ≡ c.in_ok-copy.field-0 = c.in_ok-key.ensures ∙ sym c.in_ok-copy.ensures in
    subst (λ s. IsInStep s c.insert.new.self.entries) (sym c.in_ok-push.ensures.items) (entered c.self.inside.stack.items b c.self.inside.innermost.entries c.insert.new.self.entries c.self.invariant hides
    (λ x. c.in-Ok.ensures.updates.0 x ∙ (λ i. cond (same_text (same i) x) (Some ((c.len-level.ensures ∙ c.self.inside.stack.ok.0) i, c.args.sort)) (lookup (same_text x) c.self.inside.innermost.entries))))
