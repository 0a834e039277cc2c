use Rattle.std.proofs.Common.{◌≡◌, Option, Ok, Err, map, refl, sym, subst}
use Rattle.std.specs.Prelude.{IfSome}
use Rattle.nxf_base.specs.Files.{Files}
use Rattle.syntax_definitions.specs.Loading as loading
use Rattle.syntax_definitions.specs.Refusals as refusals
use Rattle.nxf_include.specs.Roots.{files_of}
use Rattle.nxf_include.proofs.CallerLemmas.{Keeps-after, Keeps-files}
use Rattle.answer_definitions.specs.Answer.{status_of_gathering}
use Rattle.nxf_run.specs.steps.Preparing.{LoadRefuses, HasLoadCause}
use Rattle.nxf_run.proofs.Reading.{gathered_file, load_ungathered, load_refused, load_unloaded, are_loaded, load_cause, cause_after}
use Rattle.nxf_run.proofs.prepare.load_two.Goals as goal

pub returns-in-Err-clause-refused : goal.returns-in-Err-clause-refused
returns-in-Err-clause-refused g c =
    let told = files_of (map g.L.Library.shelf c.args.libraries.now) in
    subst (LoadRefuses told c.args.name.now c.args.second.now) (sym c.status_of_gathering.ensures) (load_ungathered told c.args.name.now c.args.second.now c.in-Err.error c.in-Err.ensures.answers)

pub returns-in-Err-read_problem-clause-refused : goal.returns-in-Err-read_problem-clause-refused
returns-in-Err-read_problem-clause-refused g c =
    let told = files_of (map g.L.Library.shelf c.args.libraries.now) in
    let gathered = gathered_file told c.args.name.now c.in-Ok.file c.in-Ok.ensures.answers in
    load_refused told c.args.name.now c.args.second.now c.in-Ok.file gathered c.in-Err-read_problem.status c.in-Err-read_problem.ensures

-- ---- the second file was loaded

pub returns-in-Ok-load_one_from-clause-loaded : goal.returns-in-Ok-load_one_from-clause-loaded
returns-in-Ok-load_one_from-clause-loaded g c =
    let told = files_of (map g.L.Library.shelf c.args.libraries.now) in
    let same = Keeps-files (map g.L.Library.shelf c.args.libraries.now) (map g.L.Library.shelf c.gather_from.new.libraries) c.in-Ok.ensures.keeps in
    let gathered = gathered_file told c.args.name.now c.in-Ok.file c.in-Ok.ensures.answers in
    let bytes = c.in-Ok-load_one_from.bytes.items in
    let loaded = subst (λ (t : Option Files). IfSome t (λ files. loading.loaded files c.args.second.now ≡ Ok bytes)) same c.in-Ok-load_one_from.ensures.bytes in
    let read = c.in-Ok-read_problem.reading in
    are_loaded told c.args.name.now c.args.second.now c.in-Ok.file gathered read.0 read.1 c.in-Ok-read_problem.ensures bytes loaded

pub returns-in-Ok-load_one_from-clause-keeps : goal.returns-in-Ok-load_one_from-clause-keeps
returns-in-Ok-load_one_from-clause-keeps g c = Keeps-after _ _ _ c.in-Ok.ensures.keeps c.in-Ok-load_one_from.ensures.keeps

-- ---- it was not

pub returns-in-Err-load_one_from-clause-refused : goal.returns-in-Err-load_one_from-clause-refused
returns-in-Err-load_one_from-clause-refused g c =
    let told = files_of (map g.L.Library.shelf c.args.libraries.now) in
    let same = Keeps-files (map g.L.Library.shelf c.args.libraries.now) (map g.L.Library.shelf c.gather_from.new.libraries) c.in-Ok.ensures.keeps in
    let gathered = gathered_file told c.args.name.now c.in-Ok.file c.in-Ok.ensures.answers in
    let error = c.in-Err-load_one_from.error in
    let refuses = subst (λ (t : Option Files). refusals.Refuses t (λ files. loading.loaded files c.args.second.now) error) same c.in-Err-load_one_from.ensures.refusal in
    let read = c.in-Ok-read_problem.reading in
    subst (LoadRefuses told c.args.name.now c.args.second.now) (sym c.status_of_gathering-in-Err-load_one_from.ensures)
    (load_unloaded told c.args.name.now c.args.second.now c.in-Ok.file gathered read.0 read.1 c.in-Ok-read_problem.ensures error refuses)

pub returns-in-Err-load_one_from-clause-causes : goal.returns-in-Err-load_one_from-clause-causes
returns-in-Err-load_one_from-clause-causes g c =
    let before = map g.L.Library.shelf c.args.libraries.now in
    let mid = map g.L.Library.shelf c.gather_from.new.libraries in
    let now = map g.L.Library.shelf c.load_one_from.new.libraries in
    let error = c.in-Err-load_one_from.error in
    let cause = load_cause mid now (Err error) error refl c.in-Err-load_one_from.ensures.no_file c.in-Err-load_one_from.ensures.read_fault in
    subst (HasLoadCause before now) (sym c.status_of_gathering-in-Err-load_one_from.ensures) (cause_after before mid now (status_of_gathering error) c.in-Ok.ensures.keeps cause)

pub returns-in-Err-load_one_from-clause-keeps : goal.returns-in-Err-load_one_from-clause-keeps
returns-in-Err-load_one_from-clause-keeps g c = Keeps-after _ _ _ c.in-Ok.ensures.keeps c.in-Err-load_one_from.ensures.keeps
