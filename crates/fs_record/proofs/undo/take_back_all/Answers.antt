use Rattle.std.proofs.Common.{◌≡◌, List, [], ◌∷◌, ◌++◌, ap, sym, subst, ◌∙◌}
use Rattle.fs_ident.specs.Maps.{map_of}
use Rattle.fs_record.specs.declared.undo.Undo.{Undo}
use Rattle.fs_record.specs.Undo.{undone_all, AreRecordsBack}
use Rattle.fs_record.proofs.Undoing.{back_now, back_last, undone_last}
use Rattle.fs_record.proofs.undo.take_back_all.Goals as goal

pub take_back-requires : goal.take_back-requires
take_back-requires c = back_now c.loop-u.undos.items (map_of c.loop-u.records) c.loop-u.invariant.back

pub loop-u-preserved : goal.loop-u-preserved
loop-u-preserved c =
    let m = map_of c.loop-u.records in
    let rest : List Undo = c.pop.new.self.items in
    let items : c.loop-u.undos.items ≡ rest ++ c.in-Some.u ∷ [] = c.in-Some.ensures.items in
    let back : AreRecordsBack (rest ++ c.in-Some.u ∷ []) m = subst (λ (us : List Undo). AreRecordsBack us m) items c.loop-u.invariant.back in
    record {
      back = subst (AreRecordsBack rest) (sym c.take_back.ensures) (back_last rest c.in-Some.u m back);
      same = ap (undone_all rest) c.take_back.ensures ∙ sym (undone_last rest c.in-Some.u m) ∙ ap (λ (us : List Undo). undone_all us m) (sym items) ∙ c.loop-u.invariant.same;
    }
