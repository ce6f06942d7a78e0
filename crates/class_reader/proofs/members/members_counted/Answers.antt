use Rattle.std.proofs.Common.{◌≡◌, ◌-◌, [], arith, ap, sym, subst, length}
use Rattle.std.proofs.lemmas.{Result.err_from_is_err_and, Grind.common_steps}
use Rattle.class_pool.specs.Loops.{counted}
use Rattle.class_reader.specs.Texts.{IsSeen}
use Rattle.class_pool.proofs.Loops.{counted_on, counted_fails, counted_done}
use Rattle.class_reader.proofs.TextLaw.{seen_none}
use Rattle.class_reader.proofs.members.members_counted.Goals as goal

pub loop-i-init : goal.loop-i-init
loop-i-init g c =
    let all : c.args.count - 0 ≡ c.args.count = omega arith in
    record {
      so_far = rw c.new-members.ensures (ap (λ n. counted (λ before _ b. g.K.Kind.member_at c.args.texts.now before b) [] n c.args.bytes.now) all);
      seen = subst (λ xs. IsSeen c.args.texts.now xs c.new-keys.result) (sym c.new-members.ensures) (seen_none c.args.texts.now c.new-keys.result c.new-keys.ensures.empty);
      len = ap length c.new-members.ensures;
    }

pub returns-in_err-member : goal.returns-in_err-member
returns-in_err-member g c =
    let p = err_from_is_err_and c.from_residual.result c.from_residual.ensures.1 in
    rw (p.1, p.2) (counted_fails c.in_err-member.field-0.0 (λ before _ b. g.K.Kind.member_at c.args.texts.now before b) c.loop-i.members _ c.loop-i.i c.loop-i.rest.now _ c.loop-i-test.true (rw (← c.as_slice.ensures) c.in_err-member.ensures.gives) c.loop-i.invariant.so_far)

pub loop-i-preserved : goal.loop-i-preserved
loop-i-preserved g c = record {
  so_far = rw c.in_ok-push.ensures.pushed (counted_on (λ before _ b. g.K.Kind.member_at c.args.texts.now before b) c.loop-i.members _ c.loop-i.i c.loop-i.rest.now (c.in_ok-member.member, c.in_ok-member.next.now) _ c.loop-i-test.true (rw (← c.as_slice.ensures) c.in_ok-member.ensures.gives) c.loop-i.invariant.so_far);
  seen = rw (c.in_ok-push.ensures.pushed, ← c.as_slice.ensures) c.in_ok-member.ensures.seen;
  len = grind (arith, common_steps, c.in_ok-push.ensures.pushed, c.loop-i.invariant.len);
}

pub member_of-requires : goal.member_of-requires
member_of-requires g c = record {
  few = omega (arith, c.loop-i.invariant.len, ap length c.as_slice.ensures);
  seen = rw c.as_slice.ensures c.loop-i.invariant.seen;
}

pub returns : goal.returns
returns g c = counted_done (λ before _ b. g.K.Kind.member_at c.args.texts.now before b) c.loop-i.members _ c.loop-i.i c.loop-i.rest.now _ (omega arith) c.loop-i.invariant.so_far
