-- What calls and returns ask of methods.
use Rattle.std.specs.Prelude.{◌≡◌, ℕ, ◌+◌, List, length, get_or, false, Option, Some, None}
use Rattle.std.specs.Str.{bytes_eq}
use Rattle.jvm_model.specs.declared.{library.Native.Native, program.Body.Body, program.MethodRec.MethodRec, program.Program.Program}
use Rattle.jvm_model.specs.{Classes.init_name, Classes.is_trivial, Classes.method_at, Descriptors.parameters, Descriptors.return_type, Linked.first_or}
use Rattle.vm_tables.specs.declared.methods.{CallDescriptor.CallDescriptor, MethodFacts.MethodFacts}

-- what entering a method of this class takes that has this code
abbrev pub call_descriptor_by : Program → ℕ → Option Body → Option CallDescriptor
call_descriptor_by p c None = None
call_descriptor_by p c (Some b) = Some (record { cost = b.max_stack + b.max_locals + 1; max_locals = b.max_locals; is_trivial = is_trivial p c })

-- the code that a call enters
abbrev pub entered_code : Option Native → Option Body → Option Body
entered_code None body = body
entered_code (Some x) body = None

abbrev pub call_descriptor_in : Program → MethodRec → Option CallDescriptor
call_descriptor_in p r = call_descriptor_by p r.class (entered_code r.native r.body)

abbrev pub call_descriptor_of : Program → ℕ → Option CallDescriptor
call_descriptor_of p m = call_descriptor_in p (method_at p m)

-- the first unit of the type that a method returns, 0 where its descriptor lacks one
abbrev pub return_unit : Program → ℕ → ℕ
return_unit p m = first_or 0 (return_type (method_at p m).descriptor)

abbrev pub facts_in : Program → MethodRec → MethodFacts
facts_in p r = record {
  arguments = length (parameters r.descriptor);
  call_descriptor = call_descriptor_in p r;
  return_unit = first_or 0 (return_type r.descriptor);
  is_initialiser = bytes_eq r.name init_name;
}

abbrev pub facts_of : Program → ℕ → MethodFacts
facts_of p m = facts_in p (method_at p m)

-- of a method that the program lacks
abbrev pub no_facts : MethodFacts
no_facts = record { arguments = 0; call_descriptor = None; return_unit = 0; is_initialiser = false }

abbrev pub AreFacts : Program → List MethodFacts → Type 0
AreFacts p table = (m : ℕ) → get_or table m no_facts ≡ facts_of p m
