use Rattle.std.proofs.Common.{None}
use Rattle.class_reader.specs.declared.parts.MemberPart.{MemberPart}
use Rattle.class_reader.proofs.TextLaw.{seen_member}
use Rattle.class_reader.proofs.members.MethodsKind.member_of.Goals as goal

pub returns-clause-seen : goal.returns-clause-seen
returns-clause-seen c =
    let member : MemberPart = record { flags = c.in_ok-flags.flags; name = c.in_ok-name.name; descriptor = c.in_ok-descriptor.descriptor; constant = None; code = c.in_ok-code.code } in
    seen_member c.args.texts.now c.args.before.now member c.once.new.keys c.in_ok-once.ensures.seen
