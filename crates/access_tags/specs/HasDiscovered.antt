-- What is kept of the running test's meetings with objects.
use Rattle.std.specs.Prelude.{ℕ, List}
use Rattle.jvm_model.specs.declared.values.Touch.{Touch}
use Rattle.access_tags.specs.declared.discovery_tree.DiscoveryTree.{DiscoveryTree}
use Rattle.access_tags.specs.ParentEdges.{HasParents}

abbrev pub HasDiscovered : ℕ → List Touch → DiscoveryTree → Type 0
HasDiscovered t ts m = HasParents t ts m.met
