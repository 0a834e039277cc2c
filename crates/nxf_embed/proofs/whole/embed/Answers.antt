use Rattle.std.proofs.Common.{◌≡◌, ◌++◌, ap, sym, subst, ◌∙◌, append_assoc}
use Rattle.nxf_tree.specs.Axioms.{added_axioms}
use Rattle.nxf_tree.specs.ClassicalSignature.{classical_signature_of}
use Rattle.nxf_tree.specs.Problem.{problem_of, declarations, axiom_statements, embedded_statements}
use Rattle.nxf_tree.specs.Sorting.{FileIsOver}
use Rattle.nxf_tree.specs.Text.{is_printable}
use Rattle.embedding_laws.proofs.FileLaw.{file-law}
use Rattle.embedding_laws.proofs.Whole.{embedding_theorem, equal_worlds}
use Rattle.numbered_definitions.specs.NamedForm.{formulas_of}
use Rattle.nxf_tree.specs.Countermodels.{KeepsCountermodels}
use Rattle.nxf_tree.specs.Countermodels.{KeepsWorlds}
use Rattle.nxf_embed.specs.Kept.{HasOneConjectureAtMost}
use Rattle.nxf_embed.proofs.OneConjecture.{one_conjecture}
use Rattle.nxf_embed.proofs.Printable.{problem_is_printable}
use Rattle.nxf_embed.proofs.Read.{file-chosen, file-sorted}
use Rattle.nxf_embed.proofs.whole.embed.Goals as goal

pub returns-clause-written : goal.returns-clause-written
returns-clause-written c file read =
    let sig = c.args.checked.now.signature in
    let tables : c.in_ok-tables.tables ≡ classical_signature_of sig = c.in_ok-tables.ensures.made ∙ ap classical_signature_of c.signature.ensures.value in
    let declared : c.in_ok-statements.statements ≡ declarations (classical_signature_of sig) = c.in_ok-statements.ensures ∙ ap declarations tables in
    let added : c.add_axioms.new.statements ≡ declarations (classical_signature_of sig) ++ axiom_statements 1 (added_axioms sig) =
    c.in_ok-add_axioms.ensures ∙ (λ i. declared i ++ axiom_statements 1 (added_axioms (c.signature-2.ensures.value i))) in
    let all : c.add_formulas.new.statements ≡ (problem_of sig file).statements =
    c.in_ok-add_formulas.ensures (formulas_of file) read.formulas
    ∙ (λ i. added i ++ file-chosen sig file c.args.parts.now read.parts i)
    ∙ append_assoc (declarations (classical_signature_of sig)) (axiom_statements 1 (added_axioms sig)) (embedded_statements sig file.statements) in
    λ i. record { statements = all i }

pub returns-clause-printable : goal.returns-clause-printable
returns-clause-printable c file read = ap is_printable (returns-clause-written c file read) ∙ problem_is_printable c.args.checked.now.signature file

pub returns-clause-over : goal.returns-clause-over
returns-clause-over c file read =
    let sig = c.args.checked.now.signature in
    subst (FileIsOver (classical_signature_of sig)) (sym (returns-clause-written c file read))
    (file-law sig file c.signature.ensures.well_formed.different c.signature.ensures.well_formed.in_range
    (file-sorted sig file c.args.checked.now.formulas read.formulas c.signature.ensures.sorted))

pub returns-clause-keeps_countermodels : goal.returns-clause-keeps_countermodels
returns-clause-keeps_countermodels c file read =
    subst (KeepsCountermodels c.args.checked.now.signature file) (sym (returns-clause-written c file read)) (embedding_theorem c.args.checked.now.signature file)

pub returns-clause-equal_worlds : goal.returns-clause-equal_worlds
returns-clause-equal_worlds c file read =
    subst (KeepsWorlds c.args.checked.now.signature file) (sym (returns-clause-written c file read)) (equal_worlds c.args.checked.now.signature file)

pub returns-clause-one_conjecture : goal.returns-clause-one_conjecture
returns-clause-one_conjecture c file read =
    subst HasOneConjectureAtMost (sym (returns-clause-written c file read)) (one_conjecture c.args.checked.now.signature file c.args.parts.now read.parts)
