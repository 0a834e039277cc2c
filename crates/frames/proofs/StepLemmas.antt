-- The conditions of the schemes, world by world.
use Rattle.std.proofs.Common.{◌≡◌, ℕ, ◌<◌, Bool, refl}
use Rattle.std.specs.Prelude.{◌&&◌, nat_eq}
use Rattle.nxf_tree.specs.declared.tree.Scheme.{Scheme}
use Rattle.nxf_tree.specs.declared.tree.Scheme.TheVariants.{T, D, B, Four, Five, CD, BoxM, C4, C, U}
use Rattle.nxf_tree.specs.Counting.{all_below, any_below, implies}
use Rattle.nxf_tree.specs.Conditions.{meets_scheme}
use Rattle.structure_laws.proofs.Counted.{all_implies, all_same, any_same}
use Rattle.frames.specs.steps.WorldTests.{meets_at}

pub by_worlds : (scheme : Scheme) (n : ℕ) (R : ℕ → ℕ → Bool) → meets_scheme scheme n R ≡ all_below n (meets_at scheme n R)
by_worlds T n R = refl
by_worlds D n R = refl
by_worlds B n R = refl
by_worlds Four n R = λ i. all_below n (λ w. all_below n (λ v. all_implies n (R w v) (λ u. R v u) (λ u. R w u) i))
by_worlds Five n R = λ i. all_below n (λ w. all_below n (λ v. all_implies n (R w v) (λ u. R w u) (λ u. R v u) i))
by_worlds CD n R = λ i. all_below n (λ w. all_below n (λ v. all_implies n (R w v) (λ u. R w u) (λ u. nat_eq v u) i))
by_worlds BoxM n R = refl
by_worlds C4 n R = refl
by_worlds C n R = λ i. all_below n (λ w. all_below n (λ v. all_implies n (R w v) (λ u. R w u) (λ u. any_below n (λ x. R v x && R u x)) i))
by_worlds U n R = refl

-- a condition speaks of the worlds alone
pub scheme_same : (scheme : Scheme) (n : ℕ) (R S : ℕ → ℕ → Bool) → ((w v : ℕ) → w < n → v < n → R w v ≡ S w v) → meets_scheme scheme n R ≡ meets_scheme scheme n S
scheme_same T n R S h = all_same n _ _ (λ w a. h w w a a)
scheme_same D n R S h = all_same n _ _ (λ w a. any_same n _ _ (λ v b. h w v a b))
scheme_same B n R S h = all_same n _ _ (λ w a. all_same n _ _ (λ v b i. implies (h w v a b i) (h v w b a i)))
scheme_same Four n R S h = all_same n _ _ (λ w a. all_same n _ _ (λ v b. all_same n _ _ (λ u c i. implies (h w v a b i && h v u b c i) (h w u a c i))))
scheme_same Five n R S h = all_same n _ _ (λ w a. all_same n _ _ (λ v b. all_same n _ _ (λ u c i. implies (h w v a b i && h w u a c i) (h v u b c i))))
scheme_same CD n R S h = all_same n _ _ (λ w a. all_same n _ _ (λ v b. all_same n _ _ (λ u c i. implies (h w v a b i && h w u a c i) (nat_eq v u))))
scheme_same BoxM n R S h = all_same n _ _ (λ w a. all_same n _ _ (λ v b i. implies (h w v a b i) (h v v b b i)))
scheme_same C4 n R S h = all_same n _ _ (λ w a. all_same n _ _ (λ v b i. implies (h w v a b i) (any_same n _ _ (λ u c j. h w u a c j && h u v c b j) i)))
scheme_same C n R S h =
    all_same n _ _ (λ w a. all_same n _ _ (λ v b. all_same n _ _ (λ u c i. implies (h w v a b i && h w u a c i) (any_same n _ _ (λ x d j. h v x b d j && h u x c d j) i))))
scheme_same U n R S h = all_same n _ _ (λ w a. all_same n _ _ (λ v b. h w v a b))
