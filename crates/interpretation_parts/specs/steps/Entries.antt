-- Symbols as they are handed on.
use Rattle.std.specs.Prelude.{ℕ, Option}
use Rattle.std.proofs.Common.{Bor}
use Rattle.std.specs.Option.{option_map}
use Rattle.nxf_tree.specs.declared.tree.TableEntry.{TableEntry}

-- a symbol with its number, without where it lies
abbrev pub entry_in : Option (ℕ × Bor TableEntry) → Option (ℕ × TableEntry)
entry_in = option_map (λ p. (p.0, p.1.now))
