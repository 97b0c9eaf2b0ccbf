-- Effects that were decided, on their way to the servers of their files.
use Rattle.std.specs.Prelude.{◌≡◌, ◌≢◌, ◌++◌, Bool, not, List, filter, None}
use Rattle.fs_ident.specs.In.{In}
use Rattle.fs_field.specs.After.{changed_file}
use Rattle.fs_field.specs.declared.effect.Effect.{Effect}
use Rattle.fs_field.specs.declared.effect.Effect.TheVariants.{SetChild, SetParent, NewNode, RemoveNode}
use Rattle.fs_record.specs.Applied.{records_after_all}
use Rattle.fs_record.specs.Records.{AreRecords, RecordMap}

-- what is decided for another server than the leader: a name goes, a file gets its place, or a file goes
abbrev pub IsDecided : Effect → Type 0
IsDecided (SetChild dir name None) = Unit {0}
IsDecided (SetParent file dir name) = Unit {0}
IsDecided (RemoveNode file) = Unit {0}
IsDecided e = ⊥

abbrev pub AreDecided : List Effect → Type 0
AreDecided ds = (d : Effect) → In d ds → IsDecided d

-- on one file the two effects change different things
abbrev pub ChangesOther : Effect → Effect → Type 0
ChangesOther (SetChild d n x) (SetChild e m y) = n ≢ m
ChangesOther (SetChild d n x) (NewNode f k e m) = ⊥
ChangesOther (SetChild d n x) (RemoveNode f) = ⊥
ChangesOther (SetChild d n x) e = Unit {0}
ChangesOther (SetParent f d n) (SetParent g e m) = ⊥
ChangesOther (SetParent f d n) (NewNode g k e m) = ⊥
ChangesOther (SetParent f d n) (RemoveNode g) = ⊥
ChangesOther (SetParent f d n) e = Unit {0}
ChangesOther e f = ⊥

-- the two effects are on different files, or change different things of one
abbrev pub IsApart : Effect → Effect → Type 0
IsApart e f = changed_file e ≡ changed_file f → ChangesOther e f

-- each of the first is apart from each of the others
abbrev pub AreApart : List Effect → List Effect → Type 0
AreApart ds es = (d e : Effect) → In d ds → In e es → IsApart d e

-- what all servers hold together: the records, with what was decided
abbrev pub held_with : List Effect → RecordMap → RecordMap
held_with decided m = records_after_all m decided

-- the effects that go to other servers, and those that stay with the leader
abbrev pub going : (Effect → Bool) → List Effect → List Effect
going goes es = filter goes es

abbrev pub staying : (Effect → Bool) → List Effect → List Effect
staying goes es = filter (λ e. not (goes e)) es

-- a commit that applies those that stay and sends the others is one step of what all hold, by all effects in their order
abbrev pub SplitIsOneStep : Type 0
SplitIsOneStep =
    (m : RecordMap) (decided es : List Effect) (goes : Effect → Bool) → AreRecords m → AreDecided decided → AreDecided (going goes es)
    → AreApart decided (staying goes es) → AreApart (going goes es) (staying goes es)
    → held_with (decided ++ going goes es) (records_after_all m (staying goes es)) ≡ records_after_all (held_with decided m) es
