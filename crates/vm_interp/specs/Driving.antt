-- The parts of the driver's steps, as contracts name them.
use Rattle.std.specs.Prelude.{ℕ, [], Option, None}
use Rattle.std.specs.Option.{option_to_list}
use Rattle.jvm_model.specs.declared.values.Value.{Value}
use Rattle.jvm_model.specs.declared.state.{Stage.Stage, Stage.TheVariants.Last}
use Rattle.jvm_model.specs.{Access.spend, Access.bind, Rows.begin, Throwing.throws}
use Rattle.jvm_model.specs.Driver as driver
use Rattle.vm_interp.specs.Turns.{Part}

-- a new throwable of the class is made and raised
abbrev pub throw_part : ℕ → Part
throw_part c p s = spend 1 (throws p c s)

-- a method is called with this receiver, or with none; this stage comes after it
abbrev pub call_part : ℕ → Option Value → Stage → Part
call_part m v after p s = spend 1 (driver.drives p m (option_to_list v) after s)

-- an object of the class is made
abbrev pub make_part : ℕ → Part
make_part c p s = spend 1 (driver.makes p c s)

-- a static method is called, or an object is made, once the class may be used
abbrev pub static_part : ℕ → ℕ → Part
static_part c m p s = spend 1 (bind (begin p c s.entries) (driver.once_driven p s (driver.drives p m [] (Last None) s)))

abbrev pub object_part : ℕ → Part
object_part c p s = spend 1 (bind (begin p c s.entries) (driver.once_driven p s (driver.makes p c s)))

-- the driver's steps by its stages
abbrev pub first_part : Part
first_part p s = spend 1 (driver.drive_first p s)

abbrev pub init_part : ℕ → Part
init_part o p s = spend 1 (driver.drive_init p o s)

abbrev pub method_part : ℕ → Part
method_part o p s = spend 1 (driver.drive_method p o s)

abbrev pub set_up_part : ℕ → Part
set_up_part o p s = spend 1 (driver.drive_set_up p o s)

abbrev pub tear_down_part : ℕ → Option Value → Part
tear_down_part o v p s = spend 1 (driver.drive_tear_down p o v s)

abbrev pub drive_part : Part
drive_part p s = spend 1 (driver.drive p s)

-- the test is judged by the first throwable, where there is one
abbrev pub judge_part : Option Value → Part
judge_part v p s = spend 1 (driver.judge p v s)

abbrev pub judge_value_part : Value → Part
judge_value_part v p s = spend 1 (driver.judged_value p s.own.output v)
