use Rattle.std.proofs.Common.{◌≡◌, true, ap, sym, ◌∙◌, arith, drop, ◌+◌, ◌++◌}
use Rattle.std.specs.Prelude.{None}
use Rattle.std.specs.List.{list_all}
use Rattle.fs_msg.specs.declared.entry.Entry.{Entry}
use Rattle.fs_model.specs.Asking.{home_of}
use Rattle.fs_record.specs.Applied.{is_undoable}
use Rattle.fs_record.specs.Effects.{effects_of, tells_its_effects}
use Rattle.fs_server.specs.declared.change.Change.TheVariants.{Admit}
use Rattle.fs_server.specs.Plan.{changed}
use Rattle.fs_server.specs.Server.{is_mine}
use Rattle.fs_server.specs.Ships.{first_gone, ship_from}
use Rattle.fs_server.proofs.Asking.{rest_passes}
use Rattle.fs_server.proofs.Shipping.{more_undoable, ship_more}
use Rattle.fs_server.proofs.ships.ship_entries.Goals as goal

pub loop-i-preserved : goal.loop-i-preserved
loop-i-preserved c =
    let e : Entry = c.index-entries-i.result in
    let none : first_gone c.args.at.now.rows c.args.by e.uses ≡ None = ap (first_gone c.args.at.now.rows c.args.by) (sym c.as_slice.ensures) ∙ sym c.in_default.ensures in
    let mine : is_mine c.args.at.now (home_of e.op) ≡ true = sym c.is_here.ensures ∙ c.if-not-is_here.false in
    record {
      shipped = ap (λ es. ship_from c.args.by (drop (c.loop-i.i + 1) c.args.entries.now) (changed (Admit es) c.args.at.now) c.take.new.taken.admitted) c.in_ok-take.ensures.effects
          ∙ ap (λ items. ship_from c.args.by (drop (c.loop-i.i + 1) c.args.entries.now) (changed (Admit (c.loop-i.taken.effects ++ effects_of c.args.by e.op e.reply)) c.args.at.now) items) c.in_ok-take.ensures.admitted
          ∙ sym (ship_more c.args.by c.args.entries.now c.loop-i.i e c.loop-i.taken.effects c.loop-i.taken.admitted c.args.at.now (omega arith) c.index-entries-i.is mine none)
          ∙ c.loop-i.invariant.shipped;
      undoable = ap (list_all is_undoable) c.in_ok-take.ensures.effects ∙ more_undoable c.args.by e c.loop-i.taken.effects c.loop-i.invariant.undoable;
      tell = rest_passes (λ (x : Entry). tells_its_effects x.op) c.args.entries.now c.loop-i.i e (omega arith) c.loop-i.invariant.tell;
    }
