use Rattle.std.proofs.Common.{rules, ◌≡◌, ◌∙◌, [], ap, sym}
use Rattle.fs_path.specs.Index.{are_rising, no_of_named}
use Rattle.fs_path.specs.Into.{given_names, names_from}
use Rattle.fs_path.specs.Merged.{with_each}
use Rattle.fs_path.proofs.Merges.{each_rises}
use Rattle.fs_path.proofs.PrefixWalks.{names_walked, walk_more}
use Rattle.fs_path.proofs.index.names_into.Goals as goal

pub loop-entry-init : goal.loop-entry-init
loop-entry-init c =
    let owners = c.args.map.now in
    let all : c.into_iter-entry-iterator.result ≡ c.range-entry-items.result = search rules in
    record {
      rising = ap (are_rising no_of_named) c.new-list.ensures;
      all =
          ap (with_each (names_from owners c.args.me c.args.prefix.now c.into_iter-entry-iterator.result)) c.new-list.ensures
          ∙ ap (λ es. with_each (names_from owners c.args.me c.args.prefix.now es) []) (all ∙ c.range-entry-items.ensures.between tt)
          ∙ ap (λ ns. with_each ns []) (names_walked owners c.args.me c.args.prefix.now c.args.by_file.now c.range-entry-items.ensures.ordered);
    }

pub loop-entry-preserved : goal.loop-entry-preserved
loop-entry-preserved c =
    let owners = c.args.map.now in
    let me = c.args.me in
    let prefix = c.args.prefix.now in
    record {
      rising = ap (are_rising no_of_named) c.in_ok-put_given.ensures ∙ each_rises (given_names owners me prefix (c.in-Some.entry.0.now, c.in-Some.entry.1.now)) c.loop-entry.list c.loop-entry.invariant.rising;
      all =
          ap (with_each (names_from owners me prefix c.next.new.self)) c.in_ok-put_given.ensures
          ∙ sym (walk_more owners me prefix (c.in-Some.entry.0.now, c.in-Some.entry.1.now) c.next.new.self c.loop-entry.list (sym c.begins.ensures ∙ c.if-not-begins.false))
          ∙ ap (λ es. with_each (names_from owners me prefix es) c.loop-entry.list) (sym c.in-Some.ensures.steps)
          ∙ c.loop-entry.invariant.all;
    }
