-- When two programs match: their paired classes, fields, methods and string constants are the same but for numbers.
use Rattle.std.specs.Prelude.{◌≡◌, ℕ, ◌<◌, true}
use Rattle.jvm_model.specs.declared.program.{Program.Program, ClassRec.ClassRec, FieldRec.FieldRec, MethodRec.MethodRec, Body.Body, Placed.Placed}
use Rattle.jvm_model.specs.declared.program.{Handler.Handler, TestEntry.TestEntry}
use Rattle.jvm_model.specs.{Builtin.builtin_count, Builtin.message_field, Classes.class_at, Classes.field_at, Classes.method_at, Classes.literal_at}
use Rattle.order_law.specs.Pairing.{OneToOne, PairedList, PairedOption}
use Rattle.order_law.specs.{Numbers.Numbers, Numbers.Tested, Forms.PairedConstant, Forms.PairedInstr}

pub record PairedPlaced (n : Numbers) (x y : Placed) : Type 0 where
  pub pc : x.pc ≡ y.pc
  pub form : PairedInstr n x.form y.form

pub record PairedHandler (n : Numbers) (h k : Handler) : Type 0 where
  pub from : h.from ≡ k.from
  pub to : h.to ≡ k.to
  pub at : h.at ≡ k.at
  pub catches : PairedOption (Tested n.class) h.catches k.catches

pub record PairedBody (n : Numbers) (x y : Body) : Type 0 where
  pub max_stack : x.max_stack ≡ y.max_stack
  pub max_locals : x.max_locals ≡ y.max_locals
  pub length : x.length ≡ y.length
  pub code : PairedList (PairedPlaced n) x.code y.code
  pub handlers : PairedList (PairedHandler n) x.handlers y.handlers

pub record PairedMethod (n : Numbers) (x y : MethodRec) : Type 0 where
  pub class : n.class x.class y.class ≡ true
  pub name : x.name ≡ y.name
  pub descriptor : x.descriptor ≡ y.descriptor
  pub flags : x.flags ≡ y.flags
  pub native : x.native ≡ y.native
  pub body : PairedOption (PairedBody n) x.body y.body

pub record PairedField (n : Numbers) (x y : FieldRec) : Type 0 where
  pub class : n.class x.class y.class ≡ true
  pub name : x.name ≡ y.name
  pub descriptor : x.descriptor ≡ y.descriptor
  pub flags : x.flags ≡ y.flags

pub record PairedClass (n : Numbers) (x y : ClassRec) : Type 0 where
  pub name : x.name ≡ y.name
  pub flags : x.flags ≡ y.flags
  pub superclass : PairedOption (Tested n.class) x.superclass y.superclass
  pub interfaces : PairedList (Tested n.class) x.interfaces y.interfaces
  pub fields : PairedList (Tested n.fields) x.fields y.fields
  pub methods : PairedList (Tested n.method) x.methods y.methods

-- The names and the code of two programs match by these numbers. The built-in classes, the stream and the field that holds
-- a throwable's message are paired with themselves.
pub record MatchedCode (n : Numbers) (p q : Program) : Type 0 where
  pub one_field : OneToOne (Tested n.fields)
  pub one_class : OneToOne (Tested n.class)
  pub one_literal : OneToOne (Tested n.literal)
  pub classes : (c d : ℕ) → n.class c d ≡ true → PairedClass n (class_at p c) (class_at q d)
  pub fields : (f g : ℕ) → n.fields f g ≡ true → PairedField n (field_at p f) (field_at q g)
  pub methods : (a b : ℕ) → n.method a b ≡ true → PairedMethod n (method_at p a) (method_at q b)
  pub texts : (a b : ℕ) → n.literal a b ≡ true → literal_at p a ≡ literal_at q b
  pub builtin : (c : ℕ) → c < builtin_count → n.class c c ≡ true
  pub stream : n.literal 0 0 ≡ true
  pub message : n.fields message_field message_field ≡ true

-- Their classes start alike: initialisers are paired, or both are none, and so are the opening values of fields.
pub record MatchedStarts (n : Numbers) (p q : Program) : Type 0 where
  pub initialisers : (c d : ℕ) → n.class c d ≡ true → PairedOption (Tested n.method) (class_at p c).initialiser (class_at q d).initialiser
  pub openings : (f g : ℕ) → n.fields f g ≡ true → PairedConstant n (field_at p f).opening (field_at q g).opening

-- The programs match.
pub record Matched (n : Numbers) (p q : Program) : Type 0 where
  pub code : MatchedCode n p q
  pub starts : MatchedStarts n p q

-- the same test: its class and method are paired, and its clock and seed are equal
pub record PairedTest (n : Numbers) (t u : TestEntry) : Type 0 where
  pub class : n.class t.class u.class ≡ true
  pub method : n.method t.method u.method ≡ true
  pub clock : t.clock ≡ u.clock
  pub seed : t.seed ≡ u.seed
