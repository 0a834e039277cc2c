use Rattle.std.proofs.Common.{◌≡◌, sym, arith}
use Rattle.std.proofs.lemmas.Grind.{common_steps}
use Rattle.nxf_tree.specs.ClassicalSignature.{classical_signature_of}
use Rattle.classical_signature_laws.specs.ClassicalSignatures.{IsClassicalOf}
use Rattle.classical_signature_laws.proofs.ClassicalSorts.{has-sorts, has-arguments, classical-names}
use Rattle.classical_signatures.proofs.classical_signature.classical.Goals as goal
use Rattle.classical_signatures.proofs.classical_signature.classical.Goals.{In_ok-add_symbols}

made : (c : In_ok-add_symbols) → classical_signature_of c.args.over.now ≡ record { sorts = c.in_ok-sorts.sorts; tables = c.add_symbols.new.tables }
made c = grind (arith, common_steps)

classical-of : (c : In_ok-add_symbols) → IsClassicalOf c.args.over.now (record { sorts = c.in_ok-sorts.sorts; tables = c.add_symbols.new.tables })
classical-of c = record { well_formed = c.requires; is = sym (made c) }

pub returns-clause-is_classical : goal.returns-clause-is_classical
returns-clause-is_classical c = classical-of c

pub returns-clause-different : goal.returns-clause-different
returns-clause-different c = classical-names c.args.over.now _ (classical-of c)

pub returns-clause-sorts : goal.returns-clause-sorts
returns-clause-sorts c = has-sorts c.args.over.now _ (classical-of c)

pub returns-clause-arguments : goal.returns-clause-arguments
returns-clause-arguments c = has-arguments c.args.over.now _ (classical-of c)
