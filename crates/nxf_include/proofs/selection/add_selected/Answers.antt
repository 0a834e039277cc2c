use Rattle.std.proofs.Common.{◌∙◌, ap, sym, Some}
use Rattle.std.specs.List.{filter}
use Rattle.syntax_definitions.specs.Gathered.{is_listed}
use Rattle.nxf_include.proofs.Selecting.{selected_ok, selected_not}
use Rattle.nxf_include.proofs.selection.add_selected.Goals as goal

pub returns-in-Some-missing-clause-refused : goal.returns-in-Some-missing-clause-refused
returns-in-Some-missing-clause-refused c =
    let names = c.as_slice-names.result.now in
    selected_not c.args.file.now c.args.names.now names c.args.statements (c.in-Some.is ∙ ap Some (sym c.as_slice-names.ensures)) c.in-Some-missing.name.now c.no_such_name.result
    (c.in-Some-missing.ensures (filter (is_listed names) c.args.statements) c.in_ok-found.ensures.found) c.no_such_name.ensures

pub returns-clause-added : goal.returns-clause-added
returns-clause-added c =
    let names = c.as_slice-names.result.now in (
      filter (is_listed names) c.args.statements,
      selected_ok c.args.file.now c.args.names.now names c.args.statements (c.in-Some.is ∙ ap Some (sym c.as_slice-names.ensures))
          (c.in-None.ensures (filter (is_listed names) c.args.statements) c.in_ok-found.ensures.found),
      c.in_ok-found.ensures.added,
    )
