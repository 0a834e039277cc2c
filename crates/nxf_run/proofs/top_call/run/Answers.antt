use Rattle.std.proofs.Common.{◌≡◌, rules}
use Rattle.std.specs.Vec.{with_items}
use Rattle.std.proofs.lemmas.List.{with_items_is}
use Rattle.nxf_run.proofs.top_call.run.Goals as goal

-- what the libraries are in the end
left : (g : _) (c : goal.After-roots-1 g) → (with_items c.args.roots.now.libraries c.run_over.new.libraries).items ≡ c.run_over.new.libraries
left g c = with_items_is c.args.roots.now.libraries c.run_over.new.libraries (search (rules, c.deref_mut.ensures.len, c.run_over.auto.libraries))

pub returns-clause-answers : goal.returns-clause-answers
returns-clause-answers g c = rw (left g c) (rw c.deref_mut.ensures.value at c.run_over.ensures.answers)

pub returns-clause-causes : goal.returns-clause-causes
returns-clause-causes g c = rw (left g c) (rw c.deref_mut.ensures.value at c.run_over.ensures.causes)

pub returns-clause-reports : goal.returns-clause-reports
returns-clause-reports g c = rw (left g c) (rw c.deref_mut.ensures.value at c.run_over.ensures.reports)

pub returns-clause-completes : goal.returns-clause-completes
returns-clause-completes g c = rw (left g c) (rw c.deref_mut.ensures.value at c.run_over.ensures.completes)

pub returns-clause-means : goal.returns-clause-means
returns-clause-means g c = rw (left g c) (rw c.deref_mut.ensures.value at c.run_over.ensures.means)
