-- Each frame axiom is true exactly where its condition holds.
use Rattle.std.proofs.Common.{◌≡◌, ℕ, Bool, List, [], ◌∷◌, refl, ◌∙◌}
use Rattle.std.specs.Prelude.{◌&&◌, nat_eq, map}
use Rattle.nxf_tree.specs.declared.tree.IndexName.{IndexName}
use Rattle.nxf_tree.specs.declared.tree.IndexEntry.{IndexEntry}
use Rattle.nxf_tree.specs.declared.tree.SortName.TheVariants.{User}
use Rattle.nxf_tree.specs.declared.tree.Signature.{Signature}
use Rattle.nxf_tree.specs.declared.tree.Scheme.{Scheme}
use Rattle.nxf_tree.specs.declared.tree.Scheme.TheVariants.{T, D, B, Four, Five, CD, BoxM, C4, C, U}
use Rattle.nxf_tree.specs.Counting.{all_below, any_below, implies}
use Rattle.std.specs.List.{list_all}
use Rattle.nxf_tree.specs.Names.{world_name, world_variable, relation_name}
use Rattle.nxf_tree.specs.Kripke.{KripkeModel}
use Rattle.nxf_tree.specs.Classical.{ClassicalModel, csat}
use Rattle.nxf_tree.specs.Conditions.{meets_scheme, meets_frames}
use Rattle.nxf_tree.specs.Axioms.{frame_axiom, frame_axioms}
use Rattle.name_laws.specs.Agreement.{Agrees}
use Rattle.name_laws.proofs.Bounds.{and-true}
use Rattle.std.proofs.lemmas.List.Folds.{list_all-append, list_all-map}
use Rattle.name_laws.proofs.Lists.{list_all-same}

abbrev W : ClassicalModel → ℕ
W S = S.size (User world_name)

abbrev R : ClassicalModel → IndexName → ℕ → ℕ → Bool
R S i w v = S.holds (relation_name i) (w ∷ v ∷ [])

frame-says : (S : ClassicalModel) (i : IndexName) (scheme : Scheme) → csat S [] (frame_axiom i scheme) ≡ meets_scheme scheme (W S) (R S i)
unfolding world_variable
frame-says S i T = refl
frame-says S i D = refl
frame-says S i B = refl
frame-says S i Four = λ k. all_below (W S) (λ w. all_below (W S) (λ v. all_below (W S) (λ u. implies (R S i w v && and-true (R S i v u) k) (R S i w u))))
frame-says S i Five = λ k. all_below (W S) (λ w. all_below (W S) (λ v. all_below (W S) (λ u. implies (R S i w v && and-true (R S i w u) k) (R S i v u))))
frame-says S i CD = λ k. all_below (W S) (λ w. all_below (W S) (λ v. all_below (W S) (λ u. implies (R S i w v && and-true (R S i w u) k) (nat_eq v u))))
frame-says S i BoxM = refl
frame-says S i C4 = λ k. all_below (W S) (λ w. all_below (W S) (λ v. implies (R S i w v) (any_below (W S) (λ u. R S i w u && and-true (R S i u v) k))))
frame-says S i C = λ k. all_below (W S) (λ w. all_below (W S) (λ v. all_below (W S) (λ u. implies (R S i w v && and-true (R S i w u) k) (any_below (W S) (λ x. R S i v x && and-true (R S i u x) k)))))
frame-says S i U = refl

module _ (sig : Signature) (K : KripkeModel) (S : ClassicalModel) (c : Agrees sig K S) where
  pub frame-law : (i : IndexName) (scheme : Scheme) → csat S [] (frame_axiom i scheme) ≡ meets_scheme scheme K.worlds (K.related i)
  frame-law i scheme = frame-says S i scheme ∙ (λ k. meets_scheme scheme (c.worlds k) (λ w v. c.related i w v k))

  frames-of : (entries : List IndexEntry) → list_all (csat S []) (frame_axioms entries) ≡ list_all (λ entry. list_all (λ scheme. meets_scheme scheme K.worlds (K.related entry.name)) entry.schemes) entries
  frames-of [] = refl
  frames-of (entry ∷ entries) =
      list_all-append (csat S []) (map (frame_axiom entry.name) entry.schemes) (frame_axioms entries)
      ∙ (λ k. (list_all-map (csat S []) (frame_axiom entry.name) entry.schemes ∙ list_all-same _ _ (frame-law entry.name) entry.schemes) k && frames-of entries k)

  pub frames-law : list_all (csat S []) (frame_axioms sig.indexes) ≡ meets_frames sig K
  frames-law = frames-of sig.indexes
