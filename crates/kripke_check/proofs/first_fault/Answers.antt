use Rattle.std.proofs.Common.{subst}
use Rattle.fin_struct.specs.FirstFault.{IsFirstFailing, frame_conditions, domain_conditions, term_conditions}
use Rattle.fin_struct.specs.KripkeTables.{KripkeTables}
use Rattle.kripke_evaluation_definitions.specs.FileConditions.{meets_by_file, part_conditions}
use Rattle.evaluation_laws.proofs.WholeLemmas.{countermodel-exactly}
use Rattle.kripke_check.proofs.CheckLemmas.{frame-first, domain-first, term-first, part-first, moved}
use Rattle.kripke_check.proofs.first_fault.Goals as goal

pub returns-in-Some-clause-first : goal.returns-in-Some-clause-first
returns-in-Some-clause-first g c file read =
    let sig = c.args.checked.now.signature in
    let k = c.args.kripke.now in
    frame-first sig file k c.in-Some.fault (moved k frame_conditions sig c.signature-over.result.now _ _ c.signature-over.ensures.value c.in-Some.is c.first_fault.ensures.first)

pub returns-in-Some-first_fault-clause-first : goal.returns-in-Some-first_fault-clause-first
returns-in-Some-first_fault-clause-first g c file read =
    let sig = c.args.checked.now.signature in
    let k = c.args.kripke.now in
    domain-first sig file k c.in-Some-first_fault.fault (moved k frame_conditions sig c.signature-over.result.now _ _ c.signature-over.ensures.value c.in_default.is c.first_fault.ensures.first)
    (moved k domain_conditions sig c.signature-over.result.now _ _ c.signature-over.ensures.value c.in-Some-first_fault.is c.first_fault-2.ensures.first)

pub returns-in-Some-first_fault-2-clause-first : goal.returns-in-Some-first_fault-2-clause-first
returns-in-Some-first_fault-2-clause-first g c file read =
    let sig = c.args.checked.now.signature in
    let k = c.args.kripke.now in
    term-first sig file k c.in-Some-first_fault-2.fault (moved k frame_conditions sig c.signature-over.result.now _ _ c.signature-over.ensures.value c.in_default.is c.first_fault.ensures.first)
    (moved k domain_conditions sig c.signature-over.result.now _ _ c.signature-over.ensures.value c.in_default-first_fault.is c.first_fault-2.ensures.first)
    (moved k term_conditions sig c.signature-over.result.now _ _ c.signature-over.ensures.value c.in-Some-first_fault-2.is c.first_fault-3.ensures.first)

pub returns-clause-first : goal.returns-clause-first
returns-clause-first g c file read =
    let sig = c.args.checked.now.signature in
    let k = c.args.kripke.now in
    part-first sig file k c.first_fault-4.result (moved k frame_conditions sig c.signature-over.result.now _ _ c.signature-over.ensures.value c.in_default.is c.first_fault.ensures.first)
    (moved k domain_conditions sig c.signature-over.result.now _ _ c.signature-over.ensures.value c.in_default-first_fault.is c.first_fault-2.ensures.first)
    (moved k term_conditions sig c.signature-over.result.now _ _ c.signature-over.ensures.value c.in_default-first_fault-2.is c.first_fault-3.ensures.first)
    (subst (λ (view : KripkeTables). IsFirstFailing (meets_by_file sig file view) (part_conditions file) c.first_fault-4.result) c.new.ensures (c.first_fault-4.ensures.first file read))

pub returns-clause-none : goal.returns-clause-none
returns-clause-none g c file read =
    let sig = c.args.checked.now.signature in
    let k = c.args.kripke.now in
    countermodel-exactly sig file k c.first_fault-4.result c.signature-over.ensures.well_formed.different c.worlds-worlds.ensures.within c.requires.over (returns-clause-first g c file read)
