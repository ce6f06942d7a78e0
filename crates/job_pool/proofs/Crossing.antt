-- What the workers' threads share and hold may cross threads.
use Rattle.std.proofs.Common.{List, [], ◌∷◌}
use denote.RattleType.{RattleType}
use denote.Ref.{NamedLft}
use denote.Param.Send.{IsSend, IsSync, EachSync, sendable, recorded_sync, enum_sync}
use denote.Param.SendFields.{declared_sync}
use denote.Enum.Enum.{Enum}
use denote.Enum.Declared as enum
use Rattle.std.proofs.Crossing as plain
use Rattle.std.proofs.CrossingOver as over
use Rattle.std.proofs.MapsCrossing as maps
use Rattle.std.proofs.MapsCrossingOver as maps_over
use Rattle.atomic_blocks.proofs.rows.shared.Rows.TheSendSync as rows
use Rattle.atomic_blocks.proofs.rows.shared.Seat.TheSendSync as seat
use Rattle.chain_deque.specs.contracts.ends.ChainOwner as owner
use Rattle.chain_deque.specs.contracts.ends.Thief as thief
use Rattle.vm_heap.specs.contracts.region_memory.RegionMemory as region
use Rattle.vm_tables.specs.contracts.tables.Tables as tables
use Rattle.vm_calls.specs.contracts.selections.Selections as selections
use Rattle.jvm_model.specs.contracts.instr.Instr as instr
use Rattle.jvm_model.specs.contracts.library.Native as native
use Rattle.jvm_model.specs.contracts.program.Placed as placed
use Rattle.jvm_model.specs.contracts.program.Handler as handler
use Rattle.jvm_model.specs.contracts.program.FrameRec as map
use Rattle.jvm_model.specs.contracts.program.Body as body
use Rattle.jvm_model.specs.contracts.program.MethodRec as method
use Rattle.jvm_model.specs.contracts.program.ClassRec as class
use Rattle.jvm_model.specs.contracts.program.FieldRec as field
use Rattle.jvm_model.specs.contracts.program.Program as program
use Rattle.type_frames.specs.contracts.vtype.Frame as frame
use Rattle.type_frames.specs.contracts.checked.Checked as checked

pub ruleset crosses = (sendable, plain.crosses, over.crosses, maps.crosses, maps_over.crosses)

-- ---- the deques

pub owner_send : IsSend owner.the_row
owner_send = search (rows.the_send, rows.the_sync, seat.the_send, crosses) depth 60 fits 5000

pub thief_send : IsSend thief.the_row
thief_send = search (rows.the_send, rows.the_sync, seat.the_send, crosses) depth 60 fits 5000

-- ---- a checked program

-- variant by variant, as one search over all of them takes too many steps
instr_sync : IsSync instr.the_row
instr_sync = let t = instr.the_type in recorded_sync (Enum (enum.shape t)) t.D t.to t.to_one (enum_sync (enum.shape t) (
  search crosses depth 30,
  (
    search crosses depth 30,
    (
      search crosses depth 30,
      (
        search crosses depth 30,
        (
          search crosses depth 30,
          (
            search crosses depth 30,
            (
              search crosses depth 30,
              (
                search crosses depth 30,
                (
                  search crosses depth 30,
                  (
                    search crosses depth 30,
                    (
                      search crosses depth 30,
                      (
                        search crosses depth 30,
                        (
                          search crosses depth 30,
                          (
                            search crosses depth 30,
                            (
                              search crosses depth 30,
                              (
                                search crosses depth 30,
                                (
                                  search crosses depth 30,
                                  (
                                    search crosses depth 30,
                                    (
                                      search crosses depth 30,
                                      (
                                        search crosses depth 30,
                                        (
                                          search crosses depth 30,
                                          (
                                            search crosses depth 30,
                                            (
                                              search crosses depth 30,
                                              (
                                                search crosses depth 30,
                                                (
                                                  search crosses depth 30,
                                                  (
                                                    search crosses depth 30,
                                                    (
                                                      search crosses depth 30,
                                                      (
                                                        search crosses depth 30,
                                                        (
                                                          search crosses depth 30,
                                                          (
                                                            search crosses depth 30,
                                                            (
                                                              search crosses depth 30,
                                                              (
                                                                search crosses depth 30,
                                                                (
                                                                  search crosses depth 30,
                                                                  (
                                                                    search crosses depth 30,
                                                                    (
                                                                      search crosses depth 30,
                                                                      (
                                                                        search crosses depth 30,
                                                                        (
                                                                          search crosses depth 30,
                                                                          (
                                                                            search crosses depth 30,
                                                                            (
                                                                              search crosses depth 30,
                                                                              (
                                                                                search crosses depth 30,
                                                                                (
                                                                                  search crosses depth 30,
                                                                                  (
                                                                                    search crosses depth 30,
                                                                                    (
                                                                                      search crosses depth 30,
                                                                                      (
                                                                                        search crosses depth 30,
                                                                                        tt,
                                                                                      ),
                                                                                    ),
                                                                                  ),
                                                                                ),
                                                                              ),
                                                                            ),
                                                                          ),
                                                                        ),
                                                                      ),
                                                                    ),
                                                                  ),
                                                                ),
                                                              ),
                                                            ),
                                                          ),
                                                        ),
                                                      ),
                                                    ),
                                                  ),
                                                ),
                                              ),
                                            ),
                                          ),
                                        ),
                                      ),
                                    ),
                                  ),
                                ),
                              ),
                            ),
                          ),
                        ),
                      ),
                    ),
                  ),
                ),
              ),
            ),
          ),
        ),
      ),
    ),
  ),
))

placed_sync : IsSync placed.the_row
placed_sync = declared_sync placed.the_type (search crosses depth 30, (instr_sync, tt))

handler_sync : IsSync handler.the_row
handler_sync = search crosses depth 60

map_sync : IsSync map.the_row
map_sync = search crosses depth 60

body_sync : IsSync body.the_row
body_sync = search (placed_sync, handler_sync, map_sync, crosses) depth 60 fits 5000

-- variants without fields
abbrev AreBare : List (List RattleType) → Type 0
AreBare [] = Unit {0}
AreBare ([] ∷ Tss) = AreBare Tss
AreBare ((T ∷ Ts) ∷ Tss) = ⊥

bare_sync : (Tss : List (List RattleType)) → AreBare Tss → EachSync Tss
bare_sync [] e = tt
bare_sync ([] ∷ Tss) e = (tt, bare_sync Tss e)
bare_sync ((T ∷ Ts) ∷ Tss) e = absurd e

native_sync : IsSync native.the_row
native_sync = let t = native.the_type in recorded_sync (Enum (enum.shape t)) t.D t.to t.to_one (enum_sync (enum.shape t) (bare_sync (enum.shape t).variants tt))

method_sync : IsSync method.the_row
method_sync = search (body_sync, native_sync, crosses) depth 60 fits 5000

class_sync : IsSync class.the_row
class_sync = search crosses depth 60 fits 5000

field_sync : IsSync field.the_row
field_sync = search crosses depth 60 fits 5000

frame_sync : IsSync frame.the_row
frame_sync = search crosses depth 60 fits 5000

program_sync : IsSync program.the_row
program_sync = search (class_sync, field_sync, method_sync, crosses) depth 100 fits 20000

pub checked_sync : IsSync checked.the_row
checked_sync = search (class_sync, field_sync, method_sync, frame_sync, crosses) depth 100 fits 20000

-- ---- a machine

pub region_send : IsSend region.the_row
region_send = search crosses depth 150 fits 20000

pub tables_send : (κ : NamedLft) → IsSend (tables.the_row κ)
tables_send κ = search (program_sync, crosses) depth 100 fits 20000

pub selections_send : IsSend selections.the_row
selections_send = search crosses depth 100 fits 20000
