use Rattle.std.specs.FinMap.{get}
use Rattle.fs_ident.specs.Maps.{map_of}
use Rattle.fs_model.specs.Namespace.{with_change}
use Rattle.fs_model.specs.Step.{create, open_file, close, set, without_opens}
use Rattle.fs_model.proofs.WaysKept.{either_true, told_true, create_keeps, open_keeps, close_keeps, set_keeps, reap_keeps}
use Rattle.fs_model.proofs.steps.step.Goals as goal

pub returns-in-Create-clause-ways : goal.returns-in-Create-clause-ways
returns-in-Create-clause-ways c =
    let m = map_of c.args.nodes.now in
    let o = c.in-Create in
    either_true c.create.result m (map_of c.create.new.nodes) (create (get m o.dir) m o.dir o.name o.kind o.id).nodes c.args.ways.now c.create.ensures.nodes c.create.ensures.err (create_keeps (get m o.dir) m o.dir o.name o.kind o.id) c.requires.ways

pub returns-in-OpenFile-clause-ways : goal.returns-in-OpenFile-clause-ways
returns-in-OpenFile-clause-ways c =
    let m = map_of c.args.nodes.now in
    let o = c.in-OpenFile in
    either_true c.open_file.result m (map_of c.open_file.new.nodes) (open_file (get m o.file) m c.args.by o.file o.h o.modes).nodes c.args.ways.now c.open_file.ensures.nodes c.open_file.ensures.err (open_keeps (get m o.file) m c.args.by o.file o.h o.modes) c.requires.ways

pub returns-in-Close-clause-ways : goal.returns-in-Close-clause-ways
returns-in-Close-clause-ways c =
    let m = map_of c.args.nodes.now in
    let o = c.in-Close in
    told_true m (map_of c.close.new.nodes) (close (get m o.file) m c.args.by o.file o.h).nodes c.args.ways.now c.close.ensures.nodes (close_keeps (get m o.file) m c.args.by o.file o.h) c.requires.ways

pub returns-in-Set-clause-ways : goal.returns-in-Set-clause-ways
returns-in-Set-clause-ways c =
    let m = map_of c.args.nodes.now in
    let o = c.in-Set in
    told_true m (map_of c.set.new.nodes) (set (get m o.file) m c.args.by o.file o.h o.size o.stamp).nodes c.args.ways.now c.set.ensures.nodes (set_keeps (get m o.file) m c.args.by o.file o.h o.size o.stamp) c.requires.ways

pub returns-in-Reap-clause-ways : goal.returns-in-Reap-clause-ways
returns-in-Reap-clause-ways c =
    let m = map_of c.args.nodes.now in
    let o = c.in-Reap in
    told_true m (map_of c.reap.new.nodes) (with_change (without_opens o.session) m o.file) c.args.ways.now c.reap.ensures (reap_keeps m o.file o.session) c.requires.ways
