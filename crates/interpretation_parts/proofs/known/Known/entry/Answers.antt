use Rattle.std.proofs.Common.{◌≡◌, ◌<◌, ◌∷◌, ◌∙◌, ◌-◌, ◌+◌, ℕ, length, get_or, sym, ap, arith, Some}
use Rattle.std.specs.Option.{option_map}
use Rattle.nxf_tree.specs.declared.tree.TableEntry.{TableEntry}
use Rattle.interpretation_definitions.specs.Context.{symbol_in, symbols_of, actual_entry}
use Rattle.interpretation_parts.proofs.DeclarationLemmas.{get_or_behind, symbol_found}
use Rattle.interpretation_parts.proofs.known.Known.entry.Goals as goal

pub bounds-as_slice-number : goal.bounds-as_slice-number
bounds-as_slice-number c =
    let f = symbol_found (symbols_of c.args.self.now.over.now) c.args.name.now c.in-Some.number actual_entry (sym c.symbol.ensures ∙ c.in-Some.is) in
    omega (arith, f.0, ap length c.as_slice.ensures, c.if-number-eq0.false)

pub returns-then-number-eq0 : goal.returns-then-number-eq0
returns-then-number-eq0 c =
    let over = c.args.self.now.over.now in
    let f = symbol_found (symbols_of over) c.args.name.now c.in-Some.number actual_entry (sym c.symbol.ensures ∙ c.in-Some.is) in
    ap (λ (e : TableEntry). Some (0, e)) c.args.self.now.own ∙ sym (f.1 ∙ ap (λ (m : ℕ). Some (m, get_or (symbols_of over) m actual_entry)) c.if-number-eq0.true)

pub returns-else-number-eq0 : goal.returns-else-number-eq0
returns-else-number-eq0 c =
    let over = c.args.self.now.over.now in
    let n = c.in-Some.number in
    let entry = c.index-as_slice-number.result in
    let f = symbol_found (symbols_of over) c.args.name.now n entry (sym c.symbol.ensures ∙ c.in-Some.is) in
    ap (λ (e : TableEntry). Some (n, e)) (c.index-as_slice-number.is ∙ ap (λ l. get_or l (n - 1) entry) c.as_slice.ensures ∙ sym (get_or_behind actual_entry over.tables n entry c.if-number-eq0.false)) ∙ sym f.1
