use Rattle.std.proofs.Common.{◌++◌, ◌∷◌, [], ap, ◌∙◌, sym}
use Rattle.nxf_tree.specs.Occurrences.{Use, use_with}
use Rattle.nxf_tree.specs.SignatureOf.{typed}
use Rattle.nxf_signatures.specs.steps.Tables.{uses_in, value_of}
use Rattle.nxf_signatures.proofs.Lookups.{put_there, put_new}
use Rattle.nxf_signatures.proofs.Walks.{on_ok}
use Rattle.nxf_signatures.proofs.occurring.Occurring.note_use.Goals as goal

pub returns-in-Some : goal.returns-in-Some
returns-in-Some c =
    let u : Use = typed (uses_in c.args.declarations.now.symbols.entries) (use_with c.args.name.now c.args.count (value_of c.args.function)) in
    let is = put_there (uses_in c.args.self.now.symbols.entries) u _ (sym c.in-Some.ensures) in
    λ i. record { symbols = sym is i; individual = c.args.self.now.individual; plain = c.args.self.now.plain; indexes = c.args.self.now.indexes.keys }

pub returns-in_ok-kind-in-None : goal.returns-in_ok-kind-in-None
returns-in_ok-kind-in-None c =
    let u : Use = typed (uses_in c.args.declarations.now.symbols.entries) (use_with c.args.name.now c.args.count (value_of c.args.function)) in
    let is = put_new (uses_in c.args.self.now.symbols.entries) u (sym c.in-None.ensures) in
    on_ok c.push_symbol.result
    (λ h. λ i. record {
      symbols = (h ∙ ap (λ t. uses_in c.args.self.now.symbols.entries ++ record { name = c.args.name.now; type = t } ∷ []) c.in_ok-kind-in-None.ensures ∙ sym is) i;
      individual = c.args.self.now.individual;
      plain = c.args.self.now.plain;
      indexes = c.args.self.now.indexes.keys;
    })
    c.push_symbol.ensures
