use Rattle.std.proofs.Common.{◌≡◌, ◌-◌, ◌<◌, ℕ, List, get_or, length, sym, subst, arith}
use Rattle.jvm_model.specs.Classes.{method_at}
use Rattle.vm_tables.specs.Numbers.{code_of, no_placed}
use Rattle.vm_tables.proofs.Places.{index_has, index_place, index_table, index_there, index_within, table_read}
use Rattle.vm_tables.proofs.tables.Tables.index.Goals as goal

pub bounds-as_slice-method : goal.bounds-as_slice-method
bounds-as_slice-method c = subst (λ (ts : List (List ℕ)). c.args.method < length ts) (sym c.as_slice.ensures)
    (index_table c.self.inside.program.now c.args.self.now c.args.method c.args.pc c.self.inside.numbers c.self.invariant.numbers c.self.view_is c.requires)

pub bounds-as_slice-pc : goal.bounds-as_slice-pc
bounds-as_slice-pc c =
    let own = table_read c.self.inside.numbers c.as_slice.result.now c.args.method c.index-as_slice-method.result c.as_slice-2.result.now (index_table c.self.inside.program.now c.args.self.now c.args.method c.args.pc c.self.inside.numbers c.self.invariant.numbers c.self.view_is c.requires) c.as_slice.ensures c.index-as_slice-method.is c.as_slice-2.ensures in
    subst (λ (ns : List ℕ). c.args.pc < length ns) own (index_place c.self.inside.program.now c.args.self.now c.args.method c.args.pc c.self.inside.numbers c.self.invariant.numbers c.self.view_is c.requires)

pub overflow_sub-result : goal.overflow_sub-result
overflow_sub-result c =
    let own = table_read c.self.inside.numbers c.as_slice.result.now c.args.method c.index-as_slice-method.result c.as_slice-2.result.now (index_table c.self.inside.program.now c.args.self.now c.args.method c.args.pc c.self.inside.numbers c.self.invariant.numbers c.self.view_is c.requires) c.as_slice.ensures c.index-as_slice-method.is c.as_slice-2.ensures in
    let has = subst (λ (ns : List ℕ). 0 < get_or ns c.args.pc 0) own (index_has c.self.inside.program.now c.args.self.now c.args.method c.args.pc c.self.inside.numbers c.self.invariant.numbers c.self.view_is c.requires) in
    omega arith

pub returns-clause-within : goal.returns-clause-within
returns-clause-within c =
    let own = table_read c.self.inside.numbers c.as_slice.result.now c.args.method c.index-as_slice-method.result c.as_slice-2.result.now (index_table c.self.inside.program.now c.args.self.now c.args.method c.args.pc c.self.inside.numbers c.self.invariant.numbers c.self.view_is c.requires) c.as_slice.ensures c.index-as_slice-method.is c.as_slice-2.ensures in
    subst (λ (ns : List ℕ). get_or ns c.args.pc 0 - 1 < length (code_of (method_at c.args.self.now c.args.method).body)) own
    (index_within c.self.inside.program.now c.args.self.now c.args.method c.args.pc c.self.inside.numbers c.self.invariant.numbers c.self.view_is c.requires)

pub returns-clause-there : goal.returns-clause-there
returns-clause-there c =
    let own = table_read c.self.inside.numbers c.as_slice.result.now c.args.method c.index-as_slice-method.result c.as_slice-2.result.now (index_table c.self.inside.program.now c.args.self.now c.args.method c.args.pc c.self.inside.numbers c.self.invariant.numbers c.self.view_is c.requires) c.as_slice.ensures c.index-as_slice-method.is c.as_slice-2.ensures in
    subst (λ (ns : List ℕ). (get_or (code_of (method_at c.args.self.now c.args.method).body) (get_or ns c.args.pc 0 - 1) no_placed).pc ≡ c.args.pc) own
    (index_there c.self.inside.program.now c.args.self.now c.args.method c.args.pc c.self.inside.numbers c.self.invariant.numbers c.self.view_is c.requires)
