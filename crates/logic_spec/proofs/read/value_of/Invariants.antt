use Rattle.std.proofs.Common.{◌≡◌, length}
use Rattle.nxf_tree.specs.Specification.{default_words, setting_overrides}
use Rattle.logic_spec.proofs.read.value_of.Given as goal

abbrev pub invariant-loop-entries : goal.invariant-loop-entries
invariant-loop-entries l = (default_words l.setting l.entries ≡ default_words l.setting l.initial.entries) × (setting_overrides l.setting l.entries ≡ setting_overrides l.setting l.initial.entries)

abbrev pub decreases-loop-entries : goal.decreases-loop-entries
decreases-loop-entries l = length l.entries
