-- How instructions and handlers may use what entries of the pool stand for (JVMS 6.5 and 5.4.3).
use Rattle.std.specs.Prelude.{ℕ, Option, Some, None, Bool, true, false, not, ◌&&◌, ◌||◌, nat_eq, nat_le, ◌==◌, if◌then◌else◌}
use Rattle.class_pool.specs.declared.pool.Entry.{Entry}
use Rattle.class_pool.specs.declared.pool.Entry.TheVariants as entry
use Rattle.jvm_model.specs.{declared.values.Kind.Kind, declared.program.Program.Program, Builtin.throwable_class, Selection.named_class, Linked.is_interface_at}
use Rattle.jvm_model.specs.declared.values.Kind.TheVariants as kind
use Rattle.jvm_model.specs.Classes.{class_at, field_at, method_at, is_static, is_below, member}
use Rattle.code_forms.specs.declared.references.{Use.Use, Target.Target}
use Rattle.code_forms.specs.declared.references.Use.TheVariants as used
use Rattle.code_forms.specs.declared.references.Target.TheVariants as target

-- how an instruction uses the entry that it names (JVMS 6.5)
unfoldable pub use_of : ℕ → Option Use
use_of n = if n == 178 || n == 179 then Some used.StaticField
    else if n == 180 || n == 181 then Some used.InstanceField
    else if n == 182 then Some used.Virtual
    else if n == 183 then Some used.Special
    else if n == 184 then Some used.StaticCall
    else if n == 185 then Some used.Interface
    else if n == 187 || n == 189 || n == 192 || n == 193 || n == 197 then Some used.Type
    else None

-- ---- uses of the wrong kind

-- whether the entry is an InterfaceMethodref exactly where the class is an interface
abbrev pub fits_sort : Program → Option Entry → Kind → Bool
fits_sort p (Some (entry.InterfaceMethod class pair)) k = is_interface_at p (named_class k)
fits_sort p _ k = not (is_interface_at p (named_class k))

-- from version 52 on a class file's invokespecial and invokestatic may name interfaces (JVMS 4.9.1)
abbrev pub names_interfaces : Program → ℕ → Bool
names_interfaces p c = nat_le 52 (class_at p c).version

-- an interface that a class may name in invokespecial: the current one or a direct superinterface
abbrev pub is_near : Program → ℕ → ℕ → Bool
is_near p c d = names_interfaces p c && (nat_eq d c || member d (class_at p c).interfaces)

-- what invokespecial names is a class, or an interface that is near
abbrev pub special_fits : Program → ℕ → ℕ → Bool
special_fits p c d = not (is_interface_at p d) || is_near p c d

-- what invokestatic names is a class or, from version 52 on, an interface
abbrev pub static_fits : Program → ℕ → ℕ → Bool
static_fits p c d = not (is_interface_at p d) || names_interfaces p c

abbrev pub method_fits : Program → ℕ → Option Entry → Use → Kind → ℕ → Bool
method_fits p c e used.Virtual k m = not (is_static (method_at p m).flags) && fits_sort p e k
method_fits p c e used.Interface k m = not (is_static (method_at p m).flags) && fits_sort p e k
method_fits p c e used.Special k m = not (is_static (method_at p m).flags) && (fits_sort p e k && special_fits p c (named_class k))
method_fits p c e used.StaticCall k m = is_static (method_at p m).flags && (fits_sort p e k && static_fits p c (named_class k))
method_fits p c e _ k m = false

-- an instance field is one that no interface declares
abbrev pub field_fits : Program → Use → ℕ → Bool
field_fits p used.StaticField f = is_static (field_at p f).flags
field_fits p used.InstanceField f = not (is_static (field_at p f).flags) && not (is_interface_at p (field_at p f).class)
field_fits p _ f = false

-- what a handler catches is a throwable
abbrev pub type_fits : Program → Use → Kind → Bool
type_fits p used.Type k = true
type_fits p used.Caught (kind.Class d) = is_below p d throwable_class
type_fits p _ k = false

-- the class c may use the entry e, which stands for the target, in this way
unfoldable pub fits : Program → ℕ → Option Entry → Target → Use → Bool
fits p c e (target.Constant v) u = false
fits p c e (target.Type k) u = type_fits p u k
fits p c e (target.Field named f) u = field_fits p u f
fits p c e (target.Method k m) u = method_fits p c e u k m
