use Rattle.std.proofs.Common.{◌≢◌, Err, refl, ap, map}
use Rattle.nxf_include.specs.Roots.{files_of}
use Rattle.nxf_base.specs.declared.status.Status.TheVariants as status
use Rattle.nxf_run.specs.Ending.{MayEnd}
use Rattle.nxf_run.specs.Run.{Run, ran, files_told}
use Rattle.nxf_run.specs.steps.Preparing.{Refuses}
use Rattle.nxf_run.proofs.Ending.{not_ok, never_ok, ends, reports, complete, refused_ends, write_fault_ends, no_memory_ends}
use Rattle.nxf_run.proofs.Reading.{is_answer}
use Rattle.nxf_run.proofs.top_call.run_over.Goals as goal

-- ---- the text was written

pub returns-in-Ok-write_all-clause-answers : goal.returns-in-Ok-write_all-clause-answers
returns-in-Ok-write_all-clause-answers g c =
    let prepared = rw c.as_slice.ensures at c.in-Ok.ensures.text in
    (c.in-Ok.text.items, is_answer (files_of (map g.L.Library.shelf c.args.libraries.now)) c.args.words.now c.in-Ok.text.items prepared, rw c.deref.ensures.value at c.in-Ok-write_all.ensures.ok)

pub returns-in-Ok-write_all-clause-means : goal.returns-in-Ok-write_all-clause-means
returns-in-Ok-write_all-clause-means g c e = record {
  text = c.in-Ok.text.items;
  means = rw c.as_slice.ensures at c.in-Ok.ensures.text;
  writes = rw c.deref.ensures.value at c.in-Ok-write_all.ensures.ok;
}

-- ---- a write failed

abbrev fault_run : (g : _) → goal.After-drop-text-in-Err-Fault g → Run
fault_run g c = ran c.args.words.now g.L.Library.shelf c.args.libraries.now c.prepare.new.libraries g.O.Sink c.args.out.now c.write_all.new.sink g.E.Sink c.args.err.now c.report.new.err

may_fault : (g : _) (c : goal.After-drop-text-in-Err-Fault g) → MayEnd (fault_run g c) status.WriteFault
may_fault g c =
    let prepared = rw c.as_slice.ensures at c.in-Ok.ensures.text in
    write_fault_ends (fault_run g c) c.in-Ok.text.items (is_answer (files_of (map g.L.Library.shelf c.args.libraries.now)) c.args.words.now c.in-Ok.text.items prepared) (rw c.deref.ensures.value at c.in-Err-Fault.ensures.err) c.in-Ok.ensures.keeps c.in-Err-Fault.ensures.later (c.in-Err-Fault.ensures.fault (ap Err c.in-Err-Fault.field-0-is))

ends_in_fault : (g : _) (c : goal.After-drop-text-in-Err-Fault g) → MayEnd (fault_run g c) c.report.result
ends_in_fault g c = ends (fault_run g c) status.WriteFault c.report.result (λ e. cc) (may_fault g c) c.report.ensures.same

pub returns-in-Err-Fault-clause-answers : goal.returns-in-Err-Fault-clause-answers
returns-in-Err-Fault-clause-answers g c = (ends_in_fault g c).answers

pub returns-in-Err-Fault-clause-completes : goal.returns-in-Err-Fault-clause-completes
returns-in-Err-Fault-clause-completes g c = complete (fault_run g c) c.report.result (ends_in_fault g c)

pub returns-in-Err-Fault-clause-reports : goal.returns-in-Err-Fault-clause-reports
returns-in-Err-Fault-clause-reports g c = reports (fault_run g c) status.WriteFault c.report.result (λ e. cc) (may_fault g c) c.report.ensures.same c.report.ensures.some c.report.ensures.all

-- ---- a write found no memory

abbrev memory_run : (g : _) → goal.After-drop-text-in-Ok g → Run
memory_run g c = ran c.args.words.now g.L.Library.shelf c.args.libraries.now c.prepare.new.libraries g.O.Sink c.args.out.now c.write_all.new.sink g.E.Sink c.args.err.now c.report-in-Err-Memory.new.err

may_memory : (g : _) (c : goal.After-drop-text-in-Ok g) → MayEnd (memory_run g c) status.Memory
may_memory g c =
    let prepared = rw c.as_slice.ensures at c.in-Ok.ensures.text in
    no_memory_ends (memory_run g c) c.in-Ok.text.items (is_answer (files_of (map g.L.Library.shelf c.args.libraries.now)) c.args.words.now c.in-Ok.text.items prepared) (rw c.deref.ensures.value at c.in-Err-Memory.ensures.err) c.in-Ok.ensures.keeps c.in-Err-Memory.ensures.later

ends_in_memory : (g : _) (c : goal.After-drop-text-in-Ok g) → MayEnd (memory_run g c) c.report-in-Err-Memory.result
ends_in_memory g c = ends (memory_run g c) status.Memory c.report-in-Err-Memory.result (λ e. cc) (may_memory g c) c.report-in-Err-Memory.ensures.same

pub returns-in-Ok-clause-answers : goal.returns-in-Ok-clause-answers
returns-in-Ok-clause-answers g c = (ends_in_memory g c).answers

pub returns-in-Ok-clause-completes : goal.returns-in-Ok-clause-completes
returns-in-Ok-clause-completes g c = complete (memory_run g c) c.report-in-Err-Memory.result (ends_in_memory g c)

pub returns-in-Ok-clause-reports : goal.returns-in-Ok-clause-reports
returns-in-Ok-clause-reports g c =
    reports (memory_run g c) status.Memory c.report-in-Err-Memory.result (λ e. cc) (may_memory g c) c.report-in-Err-Memory.ensures.same c.report-in-Err-Memory.ensures.some c.report-in-Err-Memory.ensures.all

-- ---- there is no text

abbrev refusal_run : (g : _) → goal.After-report-in-Err g → Run
refusal_run g c = ran c.args.words.now g.L.Library.shelf c.args.libraries.now c.prepare.new.libraries g.O.Sink c.args.out.now c.args.out.now g.E.Sink c.args.err.now c.report-in-Err.new.err

refused : (g : _) (c : goal.After-report-in-Err g) → Refuses (files_told (refusal_run g c)) c.args.words.now c.in-Err.status
refused g c = rw c.as_slice.ensures at c.in-Err.ensures.refused

told_other : (g : _) (c : goal.After-report-in-Err g) → c.in-Err.status ≢ status.Ok
told_other g c = not_ok (files_told (refusal_run g c)) c.args.words.now c.in-Err.status (refused g c)

may_refuse : (g : _) (c : goal.After-report-in-Err g) → MayEnd (refusal_run g c) c.in-Err.status
may_refuse g c =
    refused_ends (refusal_run g c) c.in-Err.status (refused g c) (rw c.as_slice.ensures at c.in-Err.ensures.named) c.in-Err.ensures.causes c.in-Err.ensures.keeps refl

may_end : (g : _) (c : goal.After-report-in-Err g) → MayEnd (refusal_run g c) c.report-in-Err.result
may_end g c = ends (refusal_run g c) c.in-Err.status c.report-in-Err.result (told_other g c) (may_refuse g c) c.report-in-Err.ensures.same

pub returns-clause-answers : goal.returns-clause-answers
returns-clause-answers g c = (may_end g c).answers

pub returns-clause-reports : goal.returns-clause-reports
returns-clause-reports g c =
    reports (refusal_run g c) c.in-Err.status c.report-in-Err.result (told_other g c) (may_refuse g c) c.report-in-Err.ensures.same c.report-in-Err.ensures.some c.report-in-Err.ensures.all

pub returns-clause-completes : goal.returns-clause-completes
returns-clause-completes g c = complete (refusal_run g c) c.report-in-Err.result (may_end g c)

pub returns-clause-means : goal.returns-clause-means
returns-clause-means g c e = absurd (never_ok c.in-Err.status c.report-in-Err.result (told_other g c) c.report-in-Err.ensures.same e)

pub returns-clause-causes : goal.returns-clause-causes
returns-clause-causes g c = (may_end g c).causes
