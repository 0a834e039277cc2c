use Rattle.std.proofs.Common.{◌≡◌, ◌++◌, ◌∙◌, ap, map, take, Some, arith}
use Rattle.nxf_include.specs.Roots.{files_of}
use Rattle.nxf_include.proofs.Refusing.{refuses, at_file, short, long}
use Rattle.syntax_definitions.specs.declared.gather_error.GatherError.TheVariants.{TooLong}
use Rattle.nxf_include.proofs.loading.load_one_from.Goals as goal

pub returns-then-len-clause-refusal : goal.returns-then-len-clause-refusal
returns-then-len-clause-refusal g c =
    let h = rw c.in-Ok-Here.field-0-is at c.in-Ok-Here.ensures.loads in
    let told = files_of (map g.L.Library.shelf c.args.libraries.now) in
    let name = c.args.name.now in
    let cut : c.load_first.new.into.items ≡ take 16777217 h.0 = h.1 ∙ ap (λ xs. xs ++ take 16777217 h.0) c.new-bytes.ensures.items in
    refuses told _ (TooLong name) c.too_long.result (at_file told name (Some h.0) _ h.2 (long name _ h.0 cut (omega arith))) c.too_long.ensures

pub returns-in-Ok-Here-clause-bytes : goal.returns-in-Ok-Here-clause-bytes
returns-in-Ok-Here-clause-bytes g c =
    let h = rw c.in-Ok-Here.field-0-is at c.in-Ok-Here.ensures.loads in
    let told = files_of (map g.L.Library.shelf c.args.libraries.now) in
    let name = c.args.name.now in
    let cut : c.load_first.new.into.items ≡ take 16777217 h.0 = h.1 ∙ ap (λ xs. xs ++ take 16777217 h.0) c.new-bytes.ensures.items in
    at_file told name (Some h.0) _ h.2 (short name _ h.0 cut (omega arith))
