use Rattle.std.proofs.Common.{map}
use Rattle.std.proofs.lemmas.Result.{MatchResult-weaker}
use Rattle.nxf_include.specs.Roots.{files_of}
use Rattle.answer_definitions.specs.Check.{ChecksBytes}
use Rattle.check_answer.proofs.CallerLemmas.{handed_on}
use Rattle.answer_laws.proofs.OneCheck.{countermodel_told}
use Rattle.nxf_run.specs.steps.Preparing.{CheckRefuses, HasLoadCause}
use Rattle.nxf_run.proofs.Reading.{refused_first, files_mean, refused_then, then_no_load, check_no_load}
use Rattle.nxf_run.proofs.prepare.check_files.Goals as goal

pub returns-in_err-files-clause-refused : goal.returns-in_err-files-clause-refused
returns-in_err-files-clause-refused g c =
    let told = files_of (map g.L.Library.shelf c.args.libraries.now) in
    let second = c.args.second.now in
    let error = c.in_err-files.field-0.0 in
    handed_on c.from_residual.result (CheckRefuses told c.args.name.now second) error c.from_residual.ensures.1
    (refused_first told c.args.name.now second (λ sig file. ChecksBytes sig file second) error c.in_err-files.ensures.refused)

pub returns-in_err-files-clause-causes : goal.returns-in_err-files-clause-causes
returns-in_err-files-clause-causes g c =
    let before = map g.L.Library.shelf c.args.libraries.now in
    let now = map g.L.Library.shelf c.load_two.new.libraries in
    handed_on c.from_residual.result (HasLoadCause before now) c.in_err-files.field-0.0 c.from_residual.ensures.1 c.in_err-files.ensures.causes

-- ---- the files were loaded

pub returns-clause-text : goal.returns-clause-text
returns-clause-text g c =
    let told = files_of (map g.L.Library.shelf c.args.libraries.now) in
    let second = c.args.second.now in
    let files = c.in_ok-files.files in
    let answered = rw c.deref.ensures.value at c.check_text.ensures.answered in
    MatchResult-weaker c.check_text.result answered
    (λ text h. files_mean told c.args.name.now second (λ sig file. ChecksBytes sig file second) files.parts files.checked files.bytes.items c.in_ok-files.ensures.loaded _ text.items
    (λ file. (countermodel_told file second files.bytes.items text.items).0) h)
    (λ s h. tt)

pub returns-clause-refused : goal.returns-clause-refused
returns-clause-refused g c =
    let told = files_of (map g.L.Library.shelf c.args.libraries.now) in
    let second = c.args.second.now in
    let files = c.in_ok-files.files in
    let refused = rw c.deref.ensures.value at c.check_text.ensures.refused in
    MatchResult-weaker c.check_text.result refused (λ text h. tt)
    (λ s h. refused_then told c.args.name.now second (λ sig file. ChecksBytes sig file second) files.parts files.checked files.bytes.items c.in_ok-files.ensures.loaded s h)

pub returns-clause-causes : goal.returns-clause-causes
returns-clause-causes g c =
    let before = map g.L.Library.shelf c.args.libraries.now in
    let told = files_of before in
    let second = c.args.second.now in
    let files = c.in_ok-files.files in
    let refused = rw c.deref.ensures.value at c.check_text.ensures.refused in
    MatchResult-weaker c.check_text.result refused (λ text h. tt)
    (λ s h. then_no_load told c.args.name.now second (λ sig file. ChecksBytes sig file second) files.parts files.checked files.bytes.items c.in_ok-files.ensures.loaded
    (λ sig file t k. check_no_load second sig file files.bytes.items t k) s h before (map g.L.Library.shelf c.load_two.new.libraries))
