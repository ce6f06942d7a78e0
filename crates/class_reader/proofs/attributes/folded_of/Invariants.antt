use Rattle.std.proofs.Common.{◌≡◌, ◌-◌, None}
use Rattle.class_pool.specs.Loops.{folded}
use Rattle.class_reader.specs.{Names.is_text_of, Class.attribute_at}
use Rattle.class_reader.proofs.attributes.folded_of.Given as goal

abbrev pub invariant-loop-i : goal.invariant-loop-i
invariant-loop-i g l = folded (λ found b. attribute_at (is_text_of l.name) (g.R.Reads.reads l.reader) l.pool found b) l.found (l.count - l.i) l.rest ≡ folded (λ found b. attribute_at (is_text_of l.name) (g.R.Reads.reads l.reader) l.pool found b) None l.count l.bytes
