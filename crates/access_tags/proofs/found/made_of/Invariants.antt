use Rattle.std.proofs.Common.{◌≡◌, ◌+◌, ℕ, slice_get, Some}
use Rattle.access_tags.specs.declared.ended.Ended.{Ended}
use Rattle.access_tags.specs.FoundIn.{added}
use Rattle.access_tags.proofs.found.made_of.Given as goal

abbrev pub invariant-loop-test : goal.invariant-loop-test
invariant-loop-test l = (f : ℕ → ℕ) → f 0 ≡ 0 → ((i : ℕ) (x : Ended) → slice_get l.ended i ≡ Some x → x.size ≡ f (i + 1)) → (l.made.items ≡ added f l.test-index) × (l.before ≡ f l.test-index)
