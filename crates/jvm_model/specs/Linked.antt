-- What a linked program is: each rule that loading keeps, by name.
use Rattle.std.specs.Prelude.{◌≡◌, ◌⊎◌, ℕ, ℤ, pos, negsuc, suc, int_le, int_lt, ◌+◌, ◌<◌, ◌≤◌, ◌<ℤ◌, ◌≤ℤ◌, ◌+ℤ◌, ◌^◌, List, [], ◌∷◌, ◌++◌, length, take, get_or, All, Bool, true, false, ◌&&◌, ◌||◌, cond, nat_eq, nat_le, Option, Some, None, codes, IfSome, IsSome}
use Rattle.std.specs.{List.list_all, List.list_any, Str.bytes_eq}
use Rattle.jvm_model.specs.declared.{values.Value.Value, values.Base.Base, values.Kind.Kind, instr.Instr.Instr}
use Rattle.jvm_model.specs.declared.values.Value.TheVariants.{Int, Long, Null, Lit, Obj}
use Rattle.jvm_model.specs.declared.values.Base.TheVariants as base
use Rattle.jvm_model.specs.declared.values.Kind.TheVariants as kind
use Rattle.jvm_model.specs.declared.instr.Instr.TheVariants as form
use Rattle.jvm_model.specs.declared.program.{Program.Program, ClassRec.ClassRec, Body.Body, Placed.Placed, Handler.Handler, TestEntry.TestEntry}
use Rattle.jvm_model.specs.Library.{builtin_classes, builtin_fields, builtin_methods}
use Rattle.jvm_model.specs.Builtin.{builtin_count, object_class, throwable_class}
use Rattle.jvm_model.specs.Classes.{class_at, field_at, method_at, is_static, is_interface, is_below, upwards, member, clinit_name, init_name, default_of}
use Rattle.jvm_model.specs.{Selection.named_class, RowsCreate.is_bare, Driver.no_arguments, Driver.plain_method_in, Suite.suite_limit}
use Rattle.jvm_model.specs.Lookup.{find_field, find_method, find_declared, lacks_method}
use Rattle.et_base.specs.Names.{is_unqualified, is_class_name, is_method_name, is_field_descriptor, is_method_descriptor, argument_units}

-- the first unit of a descriptor
abbrev pub first_or : ℕ → List ℕ → ℕ
first_or d [] = d
first_or d (u ∷ us) = u

-- numbers that name an entry
abbrev pub IsClass : Program → ℕ → Type 0
IsClass p c = c < length p.classes

abbrev pub IsField : Program → ℕ → Type 0
IsField p f = f < length p.fields

abbrev pub IsMethod : Program → ℕ → Type 0
IsMethod p m = m < length p.methods

-- a string constant; the stream, 0, is none
abbrev pub IsLiteral : Program → ℕ → Type 0
IsLiteral p n = (0 < n) × (n ≤ length p.literals)

abbrev pub IsBase : Program → Base → Type 0
IsBase p (base.Class c) = IsClass p c
IsBase p _ = Unit {0}

-- a class, or an array type of 1 to 255 dimensions
abbrev pub IsKind : Program → Kind → Type 0
IsKind p (kind.Class c) = IsClass p c
IsKind p (kind.Array d b) = (0 < d) × (d ≤ 255) × IsBase p b

abbrev pub IsArray : Program → Kind → Type 0
IsArray p (kind.Class c) = ⊥
IsArray p (kind.Array d b) = IsKind p (kind.Array d b)

-- the class is one of the suite's files, and not built in
abbrev pub IsGiven : Program → ℕ → Type 0
IsGiven p c = (builtin_count ≤ c) × IsClass p c

-- The built-in classes stand first, with their fields and methods.
pub record HoldsBuiltins (p : Program) : Type 0 where
  pub classes : take builtin_count p.classes ≡ builtin_classes
  pub fields : take (length builtin_fields) p.fields ≡ builtin_fields
  pub methods : take (length builtin_methods) p.methods ≡ builtin_methods

-- Each number of a class, of a field and of a method names an entry.
pub record NamesClass (p : Program) (c : ClassRec) : Type 0 where
  pub superclass : IfSome c.superclass (λ d. IsClass p d)
  pub interfaces : All (λ d. IsClass p d) c.interfaces
  pub fields : All (λ f. IsField p f) c.fields
  pub methods : All (λ m. IsMethod p m) c.methods
  pub initialiser : IfSome c.initialiser (λ m. IsMethod p m)
  pub mentions : All (λ d. IsClass p d) c.mentions

-- the numbers in an instruction
abbrev pub NamesForm : Program → Instr → Type 0
NamesForm p (form.Const (Lit n)) = IsLiteral p n
NamesForm p (form.GetStatic f) = IsField p f
NamesForm p (form.PutStatic f) = IsField p f
NamesForm p (form.GetField c f) = IsClass p c × IsField p f
NamesForm p (form.PutField c f) = IsClass p c × IsField p f
NamesForm p (form.InvokeVirtual k m) = IsKind p k × IsMethod p m
NamesForm p (form.InvokeSpecial k m) = IsKind p k × IsMethod p m
NamesForm p (form.InvokeStatic m) = IsMethod p m
NamesForm p (form.InvokeInterface c m) = IsClass p c × IsMethod p m
NamesForm p (form.New c) = IsClass p c
NamesForm p (form.NewArray k) = IsArray p k
NamesForm p (form.MultiNewArray k d) = IsArray p k
NamesForm p (form.CheckCast k) = IsKind p k
NamesForm p (form.InstanceOf k) = IsKind p k
NamesForm p _ = Unit {0}

pub record NamesBody (p : Program) (b : Body) : Type 0 where
  pub forms : All (λ x. NamesForm p x.form) b.code
  pub handlers : All (λ h. IfSome h.catches (λ c. IsClass p c)) b.handlers

pub record NamesEntries (p : Program) : Type 0 where
  pub classes : (c : ℕ) → IsClass p c → NamesClass p (class_at p c)
  pub fields : (f : ℕ) → IsField p f → IsClass p (field_at p f).class
  pub methods : (m : ℕ) → IsMethod p m → IsClass p (method_at p m).class
  pub bodies : (m : ℕ) → IsMethod p m → IfSome (method_at p m).body (λ b. NamesBody p b)
  pub tests : All (λ t. IsClass p t.class × IsMethod p t.method) p.tests

-- d is the superclass or a direct superinterface of c
abbrev pub IsDirect : Program → ℕ → ℕ → Type 0
IsDirect p c d = ((class_at p c).superclass ≡ Some d) ⊎ (member d (class_at p c).interfaces ≡ true)

-- d is an ancestor of c
pub data IsAncestor (p : Program) : ℕ → ℕ → Type 0 where
  direct : {c d : ℕ} → IsDirect p c d → IsAncestor p c d
  further : {c d e : ℕ} → IsDirect p c d → IsAncestor p d e → IsAncestor p c e

abbrev pub is_interface_at : Program → ℕ → Bool
is_interface_at p c = is_interface (class_at p c).flags

-- The superclass is a class, and of the built-in ones Object or a throwable; that of an interface is Object; the direct
-- superinterfaces are interfaces.
pub record IsClassKind (p : Program) (c : ℕ) : Type 0 where
  pub superclass : IfSome (class_at p c).superclass (λ d. is_interface_at p d ≡ false)
  pub opened : IfSome (class_at p c).superclass (λ d. (builtin_count ≤ d) ⊎ ((d ≡ object_class) ⊎ (is_below p d throwable_class ≡ true)))
  pub interface : is_interface_at p c ≡ true → (class_at p c).superclass ≡ Some object_class
  pub interfaces : All (λ d. is_interface_at p d ≡ true) (class_at p c).interfaces

abbrev pub IsStaticField : Program → ℕ → Type 0
IsStaticField p f = is_static (field_at p f).flags ≡ true

-- a field of an instance, which no interface declares
abbrev pub IsPlainField : Program → ℕ → Type 0
IsPlainField p f = (is_static (field_at p f).flags ≡ false) × (is_interface_at p (field_at p f).class ≡ false)

abbrev pub IsStaticMethod : Program → ℕ → Type 0
IsStaticMethod p m = is_static (method_at p m).flags ≡ true

abbrev pub IsPlainMethod : Program → ℕ → Type 0
IsPlainMethod p m = is_static (method_at p m).flags ≡ false

-- a static method of an interface is called from class files of version 52 on
abbrev pub IsStaticCall : Program → ℕ → ℕ → Type 0
IsStaticCall p c m = is_interface_at p (method_at p m).class ≡ true → 52 ≤ (class_at p c).version

-- invokespecial names an interface only from version 52 on, and then the current one or a direct superinterface
abbrev pub IsSpecialCall : Program → ℕ → ℕ → Type 0
IsSpecialCall p c d = is_interface_at p d ≡ true → (52 ≤ (class_at p c).version) × ((d ≡ c) ⊎ (member d (class_at p c).interfaces ≡ true))

-- the kinds of what an instruction of class c names
abbrev pub IsFormKind : Program → ℕ → Instr → Type 0
IsFormKind p c (form.GetStatic f) = IsStaticField p f
IsFormKind p c (form.PutStatic f) = IsStaticField p f
IsFormKind p c (form.GetField d f) = IsPlainField p f
IsFormKind p c (form.PutField d f) = IsPlainField p f
IsFormKind p c (form.InvokeVirtual k m) = IsPlainMethod p m × (is_interface_at p (named_class k) ≡ false)
IsFormKind p c (form.InvokeSpecial k m) = IsPlainMethod p m × IsSpecialCall p c (named_class k)
IsFormKind p c (form.InvokeStatic m) = IsStaticMethod p m × IsStaticCall p c m
IsFormKind p c (form.InvokeInterface d m) = IsPlainMethod p m × (is_interface_at p d ≡ true)
IsFormKind p c _ = Unit {0}

pub record IsBodyKind (p : Program) (c : ℕ) (b : Body) : Type 0 where
  pub forms : All (λ x. IsFormKind p c x.form) b.code
  pub handlers : All (λ h. IfSome h.catches (λ d. is_below p d throwable_class ≡ true)) b.handlers

pub record HasKinds (p : Program) : Type 0 where
  pub classes : (c : ℕ) → IsGiven p c → IsClassKind p c
  pub bodies : (m : ℕ) → IsMethod p m → IfSome (method_at p m).body (λ b. IsBodyKind p (method_at p m).class b)

-- Names and contents that differ.
pub record IsDistinct (p : Program) : Type 0 where
  pub classes : (c d : ℕ) → IsClass p c → IsClass p d → (class_at p c).name ≡ (class_at p d).name → c ≡ d
  pub fields : (f g : ℕ) → IsField p f → IsField p g → (field_at p f).class ≡ (field_at p g).class → (field_at p f).name ≡ (field_at p g).name → (field_at p f).descriptor ≡ (field_at p g).descriptor → f ≡ g
  pub methods : (m n : ℕ) → IsMethod p m → IsMethod p n → (method_at p m).class ≡ (method_at p n).class → (method_at p m).name ≡ (method_at p n).name → (method_at p m).descriptor ≡ (method_at p n).descriptor → m ≡ n
  pub literals : (i j : ℕ) → i < length p.literals → j < length p.literals → get_or p.literals i [] ≡ get_or p.literals j [] → i ≡ j
  pub files : (i j : ℕ) → i < length p.files → j < length p.files → (get_or p.files i ([], [])).0 ≡ (get_or p.files j ([], [])).0 → i ≡ j

abbrev pub count : ℕ → List ℕ → ℕ
count n [] = 0
count n (x ∷ xs) = cond (nat_eq n x) (suc (count n xs)) (count n xs)

-- the class's own static `<clinit>` with `()V` and code
pub record IsInitialiser (p : Program) (c m : ℕ) : Type 0 where
  pub own : (method_at p m).class ≡ c
  pub static : is_static (method_at p m).flags ≡ true
  pub name : (method_at p m).name ≡ clinit_name
  pub descriptor : (method_at p m).descriptor ≡ no_arguments
  pub code : IsSome (method_at p m).body

-- so many argument units are at most 255, with that of `this` of an instance method (JVMS 4.3.3)
abbrev pub has_room : ℕ → Option ℕ → Bool
has_room flags None = false
has_room flags (Some n) = nat_le (cond (is_static flags) n (n + 1)) 255

-- Each field and method is listed once, by its own class. Names and descriptors are in their forms, and no class has the
-- name of an array. Object alone has no superclass. Methods of built-in classes alone are built in.
pub record IsListed (p : Program) : Type 0 where
  pub fields : (f : ℕ) → IsField p f → count f (class_at p (field_at p f).class).fields ≡ 1
  pub methods : (m : ℕ) → IsMethod p m → count m (class_at p (method_at p m).class).methods ≡ 1
  pub own_fields : (c : ℕ) → IsClass p c → All (λ f. (field_at p f).class ≡ c) (class_at p c).fields
  pub own_methods : (c : ℕ) → IsClass p c → All (λ m. (method_at p m).class ≡ c) (class_at p c).methods
  pub class_names : (c : ℕ) → IsClass p c → is_class_name (class_at p c).name ≡ true
  pub field_names : (f : ℕ) → IsField p f → (is_unqualified (field_at p f).name ≡ true) × (is_field_descriptor (field_at p f).descriptor ≡ true)
  pub method_names : (m : ℕ) → IsMethod p m → (is_method_name (method_at p m).name ≡ true) × (is_method_descriptor (method_at p m).descriptor ≡ true)
  pub arguments : (m : ℕ) → IsMethod p m → has_room (method_at p m).flags (argument_units (method_at p m).descriptor) ≡ true
  pub root : (c : ℕ) → IsClass p c → (class_at p c).superclass ≡ None → c ≡ object_class
  pub top : (class_at p object_class).superclass ≡ None
  pub initialisers : (c : ℕ) → IsClass p c → IfSome (class_at p c).initialiser (λ m. IsInitialiser p c m)
  pub natives : (m : ℕ) → IsMethod p m → builtin_count ≤ (method_at p m).class → (method_at p m).native ≡ None

abbrev pub place_listed : ℕ → List Placed → Bool
place_listed n [] = false
place_listed n (x ∷ xs) = nat_eq n x.pc || place_listed n xs

-- an instruction stands at this place
abbrev pub IsPlace : Body → ℕ → Type 0
IsPlace b n = place_listed n b.code ≡ true

-- the places ascend strictly, from this one on
abbrev pub Ascends : ℕ → List Placed → Type 0
Ascends n [] = Unit {0}
Ascends n (x ∷ xs) = (n ≤ x.pc) × Ascends (x.pc + 1) xs

abbrev pub KeysAscend : List (ℤ × ℕ) → Type 0
KeysAscend [] = Unit {0}
KeysAscend (x ∷ []) = Unit {0}
KeysAscend (x ∷ y ∷ ys) = (x.0 <ℤ y.0) × KeysAscend (y ∷ ys)

abbrev pub dims_of : Kind → ℕ
dims_of (kind.Class c) = 0
dims_of (kind.Array d b) = d

-- what the code grammar asks of an instruction: targets are places; a tableswitch has targets, and its keys are ints; the
-- keys of a lookupswitch ascend; a constant is no object; and the dimensions of multianewarray are within the type's
abbrev pub IsForm : Body → Instr → Type 0
IsForm b (form.Const (Obj o)) = ⊥
IsForm b (form.IfZero x to) = IsPlace b to
IsForm b (form.IfInts x to) = IsPlace b to
IsForm b (form.IfRefs x to) = IsPlace b to
IsForm b (form.IfNull x to) = IsPlace b to
IsForm b (form.Goto to) = IsPlace b to
IsForm b (form.Table low ts other) = (0 < length ts) × ((low +ℤ pos (length ts)) ≤ℤ pos (2 ^ 31)) × All (λ to. IsPlace b to) ts × IsPlace b other
IsForm b (form.Lookup ps other) = KeysAscend ps × All (λ x. IsPlace b x.1) ps × IsPlace b other
IsForm b (form.MultiNewArray k d) = (0 < d) × (d ≤ dims_of k)
IsForm b _ = Unit {0}

pub record IsHandler (b : Body) (h : Handler) : Type 0 where
  pub from : IsPlace b h.from
  pub to : IsPlace b h.to ⊎ (h.to ≡ b.length)
  pub order : h.from < h.to
  pub at : IsPlace b h.at

pub record IsBody (b : Body) : Type 0 where
  pub some : 0 < length b.code
  pub first : (get_or b.code 0 (record { pc = 0; form = form.Nop })).pc ≡ 0
  pub ascending : Ascends 0 b.code
  pub within : All (λ x. x.pc < b.length) b.code
  pub short : b.length < 2 ^ 16
  pub forms : All (λ x. IsForm b x.form) b.code
  pub handlers : All (λ h. IsHandler b h) b.handlers

-- the method m is the one that the look-up finds from the class
abbrev pub IsFound : Program → ℕ → ℕ → Type 0
IsFound p c m = find_method p c (method_at p m).name (method_at p m).descriptor ≡ Some m

abbrev pub IsFoundField : Program → ℕ → ℕ → Type 0
IsFoundField p c f = find_field p c (field_at p f).name (field_at p f).descriptor ≡ Some f

-- the method m is the one that the look-up finds from the class or array type
abbrev pub IsFoundIn : Program → Kind → ℕ → Type 0
IsFoundIn p k m = (lacks_method k (method_at p m).name ≡ false) × IsFound p (named_class k) m

abbrev pub IsFormFound : Program → Instr → Type 0
IsFormFound p (form.GetField c f) = IsFoundField p c f
IsFormFound p (form.PutField c f) = IsFoundField p c f
IsFormFound p (form.InvokeVirtual k m) = IsFoundIn p k m
IsFormFound p (form.InvokeSpecial k m) = IsFoundIn p k m
IsFormFound p (form.InvokeInterface c m) = IsFound p c m
IsFormFound p _ = Unit {0}

pub record FindsMembers (p : Program) : Type 0 where
  pub bodies : (m : ℕ) → IsMethod p m → IfSome (method_at p m).body (λ b. All (λ x. IsFormFound p x.form) b.code)

-- whether an int is one of the type: Z, B, C and S are narrower
abbrev pub fits_int : ℕ → ℤ → Bool
fits_int u n = cond (nat_eq u 90) (int_le (pos 0) n && int_lt n (pos 2))
    (cond (nat_eq u 66) (int_le (negsuc 127) n && int_lt n (pos 128))
    (cond (nat_eq u 67) (int_le (pos 0) n && int_lt n (pos 65536))
    (cond (nat_eq u 83) (int_le (negsuc 32767) n && int_lt n (pos 32768))
    (nat_eq u 73))))

-- the descriptor of a class's instances
abbrev pub class_descriptor : List ℕ → List ℕ
class_descriptor name = 76 ∷ (name ++ (59 ∷ []))

-- whether a type takes an instance of the named class, which is below Object alone: its own, Object, or an interface, which
-- takes every reference
abbrev pub takes : Program → List ℕ → List ℕ → Bool
takes p t name = bytes_eq t (class_descriptor name) || (bytes_eq t (codes "Ljava/lang/Object;") || list_any (λ c. is_interface c.flags && bytes_eq t (class_descriptor c.name)) p.classes)

-- whether a value opens a field of this type: null stands for floats and doubles too, which no code reads
abbrev pub opens : Program → List ℕ → Value → Bool
opens p t (Int n) = fits_int (first_or 0 t) n
opens p t (Long n) = nat_eq (first_or 0 t) 74
opens p t Null = member (first_or 0 t) (68 ∷ 70 ∷ 76 ∷ 91 ∷ [])
opens p t (Lit n) = cond (nat_eq n 0) (takes p t (codes "java/io/PrintStream")) (nat_le n (length p.literals) && takes p t (codes "java/lang/String"))
opens p t (Obj o) = false

-- Opening values have their fields' types; that of an instance field is its type's default.
pub record HasOpenings (p : Program) : Type 0 where
  pub values : (f : ℕ) → IsField p f → opens p (field_at p f).descriptor (field_at p f).opening ≡ true
  pub defaults : (f : ℕ) → IsField p f → is_static (field_at p f).flags ≡ false → (field_at p f).opening ≡ default_of (field_at p f).descriptor

-- letters, digits, `_` and `$`
abbrev pub is_word : ℕ → Bool
is_word u = (nat_le 97 u && nat_le u 122) || ((nat_le 65 u && nat_le u 90) || ((nat_le 48 u && nat_le u 57) || (nat_eq u 95 || nat_eq u 36)))

-- the first method of the name and `()V` from a class upwards
abbrev pub test_method : Program → ℕ → List ℕ → Option ℕ
test_method p c name = find_declared p name no_arguments (upwards p c)

-- A test: a given class that can have instances, a method of it with code and, for an instance method, `<init>()V`.
pub record IsTest (p : Program) (t : TestEntry) : Type 0 where
  pub given : IsGiven p t.class
  pub whole : is_bare p t.class ≡ false
  pub method : test_method p t.class (method_at p t.method).name ≡ Some t.method
  pub descriptor : (method_at p t.method).descriptor ≡ no_arguments
  pub code : IsSome (method_at p t.method).body
  pub init : is_static (method_at p t.method).flags ≡ false → IsSome (plain_method_in p init_name (class_at p t.class).methods)
  pub word : list_all is_word (method_at p t.method).name ≡ true
  pub words : list_all (λ u. is_word u || nat_eq u 47) (class_at p t.class).name ≡ true
  pub budget : (0 < t.budget) × (t.budget ≤ suite_limit)

-- A linked program.
pub record Linked (p : Program) : Type 0 where
  -- it has the built-in classes as they stand
  pub builtins : HoldsBuiltins p
  -- each number names an entry of the sort that its place needs
  pub numbers : NamesEntries p
  -- no class is its own ancestor
  pub acyclic : (c : ℕ) → IsAncestor p c c → ⊥
  -- superclasses, interfaces and references are of their kinds
  pub kinds : HasKinds p
  -- what has to differ differs
  pub distinct : IsDistinct p
  -- members are listed by their classes, and names are in their forms
  pub listed : IsListed p
  -- each body is as the code grammar allows
  pub bodies : (m : ℕ) → IsMethod p m → IfSome (method_at p m).body (λ b. IsBody b)
  -- the member that an instruction with a class names is the one that the look-up finds
  pub members : FindsMembers p
  -- opening values have their types
  pub openings : HasOpenings p
  -- each test is one
  pub tests : All (λ t. IsTest p t) p.tests
  -- there are no more classes and tests than the limits
  pub few_classes : length p.classes ≤ builtin_count + 1024
  pub few_tests : length p.tests ≤ 1024
