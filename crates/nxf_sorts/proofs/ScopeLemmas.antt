-- The stack of binders, and the table that is in step with it.
use Rattle.std.proofs.Common.{◌≡◌, ℕ, ◌+◌, cond, List, [], ◌∷◌, ◌++◌, length, fold, None, Some, sym, ap, ◌∙◌, arith}
use Rattle.std.specs.Prelude.{if◌then◌else◌, Result, Ok, Err, OnOk, OnErr}
use Rattle.std.specs.Map.{lookup}
use Rattle.std.proofs.lemmas.List.Sums.{fold-append}
use Rattle.nxf_tree.specs.Names.{same_text}
use Rattle.name_laws.proofs.Spelling.{same_text-refl, same_text-true}
use Rattle.signature_laws.proofs.NoFault.{some-none}
use Rattle.name_laws.proofs.Firsts.{split_bool}
use Rattle.nxf_sorts.specs.declared.binders.Binder.{Binder}
use Rattle.nxf_sorts.specs.steps.Scope.{Scope, found}
use Rattle.nxf_sorts.specs.steps.InStep.{and_binder, scope_of, KnowHidden, IsInStep}

pub scope_push : (stack : List Binder) (b : Binder) → scope_of (stack ++ b ∷ []) ≡ and_binder (scope_of stack) b
scope_push stack b = fold-append and_binder [] stack (b ∷ [])

scope_long : (bs : Scope) (stack : List Binder) → length (fold and_binder bs stack) ≡ length bs + length stack
scope_long bs [] = omega arith
scope_long bs (b ∷ stack) = scope_long (and_binder bs b) stack ∙ omega arith

pub scope_length : (stack : List Binder) → length (scope_of stack) ≡ length stack
scope_length stack = scope_long [] stack ∙ omega arith

know_push : (bs : Scope) (stack : List Binder) (b : Binder) → KnowHidden bs stack → b.hidden ≡ found (fold and_binder bs stack) b.name → KnowHidden bs (stack ++ b ∷ [])
know_push bs [] b h e = (e, tt)
know_push bs (a ∷ stack) b h e = (h.0, know_push (and_binder bs a) stack b h.1 e)

know_rest : (bs : Scope) (stack : List Binder) (b : Binder) → KnowHidden bs (stack ++ b ∷ []) → KnowHidden bs stack
know_rest bs [] b h = tt
know_rest bs (a ∷ stack) b h = (h.0, know_rest (and_binder bs a) stack b h.1)

know_last : (bs : Scope) (stack : List Binder) (b : Binder) → KnowHidden bs (stack ++ b ∷ []) → b.hidden ≡ found (fold and_binder bs stack) b.name
know_last bs [] b h = h.0
know_last bs (a ∷ stack) b h = know_last (and_binder bs a) stack b h.1

module _ (stack : List Binder) (b : Binder) (old new : List (List ℕ × (ℕ × ℕ))) where
  -- entering: the new binder is the innermost one of its variable
  pub entered : IsInStep stack old → b.hidden ≡ found (scope_of stack) b.name
      → ((x : List ℕ) → lookup (same_text x) new ≡ cond (same_text b.name x) (Some (length stack, b.sort)) (lookup (same_text x) old))
      → IsInStep (stack ++ b ∷ []) new
  entered step hides updates = record {
    innermost_found = λ x.
        updates x
        ∙ (λ i. if same_text b.name x then Some (sym (scope_length stack) i, b.sort) else step.innermost_found x i)
        ∙ sym (ap (λ bs. found bs x) (scope_push stack b));
    hidden = know_push [] stack b step.hidden hides;
  }

  -- leaving: the binder that was hidden is the innermost one again
  pub left : IsInStep (stack ++ b ∷ []) old
      → ((x : List ℕ) → lookup (same_text x) new ≡ cond (same_text b.name x) b.hidden (lookup (same_text x) old))
      → IsInStep stack new
  left step updates = record {
    innermost_found = λ x. updates x ∙ split_bool (same_text b.name x)
        (λ e. ap (λ c. cond c b.hidden (lookup (same_text x) old)) e ∙ know_last [] stack b step.hidden ∙ ap (found (scope_of stack)) (same_text-true b.name x e))
        (λ e. ap (λ c. cond c b.hidden (lookup (same_text x) old)) e ∙ step.innermost_found x ∙ ap (λ bs. found bs x) (scope_push stack b)
        ∙ ap (λ c. if c then Some (length (scope_of stack), b.sort) else found (scope_of stack) x) e);
    hidden = know_rest [] stack b step.hidden;
  }

  -- the variable of the last binder is in the table
  pub is_bound : IsInStep (stack ++ b ∷ []) old → lookup (same_text b.name) old ≡ None → ⊥
  is_bound step none =
      let there : lookup (same_text b.name) old ≡ Some (length (scope_of stack), b.sort) =
      step.innermost_found b.name ∙ ap (λ bs. found bs b.name) (scope_push stack b) ∙ ap (λ c. if c then Some (length (scope_of stack), b.sort) else found (scope_of stack) b.name) (same_text-refl b.name) in
      some-none (length (scope_of stack), b.sort) (sym there ∙ none)

-- a call that can't fail has succeeded
pub settled : {A E P Q : Type 0} (r : Result A E) → OnOk r P → OnErr r Q → (Q → ⊥) → P
settled (Ok x) p q never = p
settled (Err e) p q never = absurd (never q)
