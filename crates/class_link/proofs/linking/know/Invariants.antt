use Rattle.std.proofs.Common.{All, take}
use Rattle.class_reader.specs.ClassGrammar as grammar
use Rattle.class_link.proofs.linking.know.Given as goal

-- the classes so far are known
abbrev pub invariant-loop-class : goal.invariant-loop-class
invariant-loop-class l = All (λ c. grammar.IsClass c) (take l.class-index l.classes)
