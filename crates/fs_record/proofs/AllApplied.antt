-- Several effects, one after another.
use Rattle.std.proofs.Common.{◌≡◌, List, [], ◌∷◌, ◌++◌, refl}
use Rattle.fs_field.specs.declared.effect.Effect.{Effect}
use Rattle.fs_record.specs.Records.{RecordMap, AreRecords}
use Rattle.fs_record.specs.Applied.{records_after, records_after_all}
use Rattle.fs_record.proofs.Kept.{after_kept}

pub records_after_all-append : (m : RecordMap) (a b : List Effect) → records_after_all m (a ++ b) ≡ records_after_all (records_after_all m a) b
records_after_all-append m [] b = refl
records_after_all-append m (e ∷ es) b = records_after_all-append (records_after m e) es b

pub after_all_kept : (m : RecordMap) (es : List Effect) → AreRecords m → AreRecords (records_after_all m es)
after_all_kept m [] s = s
after_all_kept m (e ∷ es) s = after_all_kept (records_after m e) es (after_kept m e s)
