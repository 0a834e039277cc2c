-- What each profile allows.
use Rattle.std.specs.Prelude.{ℕ, ◌-◌, Bool, true, false}
use Rattle.nxf_tree.specs.declared.profile.Profile.{Profile}
use Rattle.nxf_tree.specs.declared.profile.Profile.TheVariants as profiles

-- what a file may use
pub record Allowed : Type 0 where
  -- the greatest number of arguments of a name
  pub arguments : ℕ
  -- modalities, logic statements and includes
  pub modal : Bool
  -- the formulas `$distinct`
  pub distinct : Bool

-- the greatest number of arguments of a name
unfoldable pub most_arguments : Profile → ℕ
most_arguments profiles.Problem = 1000
most_arguments _ = 1001

-- the greatest nesting of a formula, term, typing, type or value, where the body of a statement stands at 1
unfoldable pub greatest_nesting : Profile → ℕ
greatest_nesting profiles.Classical = 4000
greatest_nesting _ = 1000

-- the levels below a body
abbrev pub levels_of : Profile → ℕ
levels_of profile = greatest_nesting profile - 1

abbrev pub has_includes : Profile → Bool
has_includes profiles.Problem = true
has_includes _ = false

-- whether modalities, logic statements and includes have a rule
abbrev pub has_modalities : Profile → Bool
has_modalities profiles.Problem = true
has_modalities _ = false

-- whether `$distinct` has a rule
abbrev pub has_distinct : Profile → Bool
has_distinct profiles.Interpretation = true
has_distinct _ = false

-- what a file may use in the profile
abbrev pub allowed_in : Profile → Allowed
allowed_in profile = record { arguments = most_arguments profile; modal = has_modalities profile; distinct = has_distinct profile }

-- what a file may use in some profile
abbrev pub any_allowed : Allowed
any_allowed = record { arguments = 1001; modal = true; distinct = true }
