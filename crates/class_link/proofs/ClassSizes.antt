-- A class file has few fields and methods.
use Rattle.std.proofs.Common.{◌≡◌, ◌<◌, length, sym, subst}
use Rattle.class_reader.specs.{declared.parts.ClassParts.ClassParts, ClassGrammar.IsClass}
use Rattle.class_reader.proofs.ClassFacts.{class_facts}

pub few_fields : (p c : ClassParts) → p ≡ c → IsClass c → length p.fields < 65536
few_fields p c e h = subst (λ (x : ClassParts). length x.fields < 65536) (sym e) (class_facts c h).fields.few

pub few_methods : (p c : ClassParts) → p ≡ c → IsClass c → length p.methods < 65536
few_methods p c e h = subst (λ (x : ClassParts). length x.methods < 65536) (sym e) (class_facts c h).methods.few
