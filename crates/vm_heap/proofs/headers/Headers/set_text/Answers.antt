use Rattle.std.proofs.Common.{◌-◌, length, arith, Some}
use Rattle.std.proofs.lemmas.List.{length-set}
use Rattle.vm_heap.specs.Entries.{no_entry}
use Rattle.vm_heap.proofs.Entries.{objects_there, same_headers, covered, text_set}
use Rattle.vm_heap.proofs.headers.Headers.set_text.Goals as goal

pub invariant_of-self : goal.invariant_of-self
invariant_of-self c =
    let w = objects_there c.self.inside.headers.items c.self.inside.texts.items c.args.self.now c.args.object c.self.view_is c.requires in
    (c.cover.ensures.within (length c.self.inside.headers.items) c.self.invariant.0 w, c.self.invariant.1)

pub invariant_of-self-2 : goal.invariant_of-self-2
invariant_of-self-2 c =
    let w = objects_there c.self.inside.headers.items c.self.inside.texts.items c.args.self.now c.args.object c.self.view_is c.requires in
    let n = c.cover.ensures.within (length c.self.inside.headers.items) c.self.invariant.0 w in
    let l = length-set c.cover.new.texts.items c.args.object c.set.new.self in
    (omega arith, c.self.invariant.1)

pub returns-clause-written : goal.returns-clause-written
returns-clause-written c =
    let xs = c.self.inside.headers.items in
    let ts = c.self.inside.texts.items in
    let us = c.cover.new.texts.items in
    let w = objects_there xs ts c.args.self.now c.args.object c.self.view_is c.requires in
    text_set xs us c.args.self.now c.args.object c.set.new.self (Some c.args.text) no_entry (covered xs ts us c.args.self.now (length us - length ts) c.cover.ensures.covered c.self.view_is) w c.in_ok-cover.ensures.there c.set.ensures

pub returns-clause-headers : goal.returns-clause-headers
returns-clause-headers c = same_headers c.self.inside.headers.items c.self.inside.texts.items _ c.args.self.now c.self.view_is

pub returns-in_err-cover-clause-headers : goal.returns-in_err-cover-clause-headers
returns-in_err-cover-clause-headers c = same_headers c.self.inside.headers.items c.self.inside.texts.items _ c.args.self.now c.self.view_is
