use Rattle.std.proofs.Common.{◌≡◌, ◌++◌, drop}
use Rattle.std.specs.Prelude.{flat_map}
use Rattle.nxf_tree.specs.Signature.{sort_names}
use Rattle.plain_tokens.specs.Marks.{spelled}
use Rattle.kripke_text_definitions.specs.KripkeText.{domain_statements}
use Rattle.kripke_text.proofs.printer.put_domains.Given as goal

abbrev pub invariant-loop-number : goal.invariant-loop-number
invariant-loop-number l = l.page ++ flat_map spelled (domain_statements (sort_names (drop l.number l.sort-items)) (drop l.number l.kripke.sizes)) ≡ l.initial.page ++ flat_map spelled (domain_statements (sort_names l.sort-items) l.kripke.sizes)
