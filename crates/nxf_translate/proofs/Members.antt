-- The members of a list of cells stand for formulas, or for terms, where all of them together do.
use Rattle.std.proofs.Common.{ℕ, ◌<◌, List, length, get_or, subst, arith}
use Rattle.std.specs.Prelude.{map}
use Rattle.std.proofs.Math.ListN.{get_or-map}
use Rattle.std.proofs.lemmas.List.{length-map}
use Rattle.nxf_tree.specs.declared.tree.Signature.{Signature}
use Rattle.formula_cells.specs.Stored.{Stored, node_at, term_at}
use Rattle.nxf_translate.specs.steps.Forms.{HasTerm, HasTerms, HasForm, HasForms}
use Rattle.nxf_translate.proofs.TermCases.{term-at}
use Rattle.nxf_translate.proofs.FormCases.{form-at}

module _ (sig : Signature) (xs : List (List ℕ)) (s : Stored) (parts : List ℕ) (i d : ℕ) (within : i < length parts) where
  pub form-member : HasForms sig xs (map (node_at s) parts) → HasForm sig xs (node_at s (get_or parts i d))
  form-member h =
      subst (HasForm sig xs) (get_or-map (node_at s) parts i d) (form-at sig xs (map (node_at s) parts) i (node_at s d) (omega (arith, within, length-map parts (node_at s))) h)

  pub term-member : HasTerms sig xs (map (term_at s) parts) → HasTerm sig xs (term_at s (get_or parts i d))
  term-member h =
      subst (HasTerm sig xs) (get_or-map (term_at s) parts i d) (term-at sig xs (map (term_at s) parts) i (term_at s d) (omega (arith, within, length-map parts (term_at s))) h)
