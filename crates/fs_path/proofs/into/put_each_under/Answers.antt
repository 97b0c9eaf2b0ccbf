use Rattle.std.proofs.Common.{◌+◌, ◌∙◌, ℕ, ap, drop, get_or, sym}
use Rattle.std.specs.List.{find}
use Rattle.fs_ident.specs.declared.actor.PathNo.{PathNo}
use Rattle.fs_path.specs.Index.{are_rising, no_of_named}
use Rattle.fs_path.specs.Into.{names_under, with_under}
use Rattle.fs_path.specs.Returns.{is_of}
use Rattle.fs_path.proofs.Merges.{each_rises}
use Rattle.fs_path.proofs.PrefixWalks.{under_step}
use Rattle.fs_path.proofs.into.put_each_under.Goals as goal

pub loop-name-preserved : goal.loop-name-preserved
loop-name-preserved c =
    let files = c.args.over.now.files in
    let none : ℕ × PathNo = (0, record { server = 0; count = 0 }) in
    record {
      rising = ap (are_rising no_of_named) c.in_ok-put_under.ensures ∙ each_rises (names_under files (find (is_of (get_or c.args.names.now c.loop-name.name-index none).1) c.args.held.now)) c.loop-name.list c.loop-name.invariant.rising;
      all =
          ap (with_under files c.args.held.now (drop (c.loop-name.name-index + 1) c.args.names.now)) c.in_ok-put_under.ensures
          ∙ sym (under_step files c.args.held.now c.args.names.now c.loop-name.name-index none c.loop-name.list c.loop-name-test.true)
          ∙ c.loop-name.invariant.all;
    }
