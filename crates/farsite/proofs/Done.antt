-- The end of a replay.
use Rattle.std.proofs.Common.{◌≡◌, ℕ, ◌+◌, List, [], ◌∷◌, ◌++◌, ap, sym, ◌∙◌, subst, append_assoc, inl, inr}
use Rattle.std.specs.Prelude.{Option, Some, None, IfSome}
use Rattle.std.specs.Io.KnownBytes.{Appends}
use Rattle.fs_schedule.specs.declared.event.Schedule.{Schedule}
use Rattle.fs_schedule.specs.Made.{made}
use Rattle.fs_schedule.specs.Skew.{IsTimely}
use Rattle.fs_schedule.specs.Spelling.{FitsHead}
use Rattle.fs_schedule.proofs.MadeEvents.{made_fits, made_form, made_timely}
use Rattle.fs_schedule.specs.Faults.{AtLine, FaultsAt, IsFirstFault, IsScheduleText, LinesFaultAt, PassesLimit}
use Rattle.fs_report.specs.Report.{done_text}
use Rattle.fs_schedule.proofs.Single.{form_fits}
use Rattle.fs_world.specs.Carried.{AllCarry}
use Rattle.fs_world.specs.Refusals.{NoneHas, is_link_strange}
use Rattle.fs_world.specs.World.{AllMayHappen, first_world, run_of, stop_of}
use Rattle.fs_world.proofs.CausedRuns.{all_caused}
use Rattle.fs_world.proofs.HeldLaws.{serial_laws}
use Rattle.fs_world.proofs.RightRuns.{neither_strange, no_core_strange, refusals_fair}
use Rattle.fs_world.proofs.Whole.{run_is_serial, told_is_admitted}
use Rattle.fs_schedule.specs.Lines.{lines_of}
use Rattle.fs_schedule.specs.declared.error.Which.{Which}
use Rattle.fs_schedule.specs.declared.error.Which.TheVariants.{Bytes, Events, Packets, Servers, Sessions}
use Rattle.fs_schedule.specs.declared.event.Head.{Head}
use Rattle.fs_schedule.specs.declared.error.ScheduleError.{ScheduleError}
use Rattle.fs_schedule.specs.declared.error.ScheduleError.TheVariants as schedule
use Rattle.farsite.specs.Generated.{generated_text}
use Rattle.farsite.specs.Status.{schedule_status}
use Rattle.farsite.proofs.Asked.{all_asked}
use Rattle.farsite.specs.declared.status.Status.TheVariants as status
use Rattle.farsite.specs.Headline.{IsLimit, IsRun, IsRunOf, text_of}
use Rattle.fs_words.specs.declared.command.Format.{Format}

-- this text of a schedule's run was written
pub run_written : (s : Schedule) (text : List ℕ) (a b : Option (List ℕ)) → FitsHead s.head → IsTimely s.head s.events → AllMayHappen s.head s.events → stop_of s ≡ None → NoneHas is_link_strange (run_of s).outcomes → AllCarry (first_world s.head) s.events → Appends a b text → IsRunOf s text a b
run_written s text a b form timely f h k carry w = record {
  whole = h;
  written = w;
  headline = run_is_serial serial_laws s form f timely carry;
  fair = refusals_fair serial_laws s form f timely carry;
  over = all_caused s.head s.events carry;
  known = neither_strange (run_of s).outcomes k (no_core_strange serial_laws s form f timely carry);
  admitted = λ direct. told_is_admitted serial_laws s direct f;
}

-- a schedule's run was written in the format
pub replayed : (format : Format) (s : Schedule) (bytes : List ℕ) (a b : Option (List ℕ)) → IsScheduleText s bytes → AllMayHappen s.head s.events → stop_of s ≡ None → NoneHas is_link_strange (run_of s).outcomes → AllCarry (first_world s.head) s.events → Appends a b (text_of format (run_of s)) → IsRun format bytes a b
replayed format s bytes a b r f h k carry w = record { schedule = s; read = r; run = run_written s (text_of format (run_of s)) a b (form_fits s bytes r) r.1 f h k carry w }

-- the line of a made schedule's run was written
pub generated : (n : ℕ) (s : Schedule) (a b : Option (List ℕ)) → made n ≡ s → stop_of s ≡ None → NoneHas is_link_strange (run_of s).outcomes → AllCarry (first_world s.head) s.events → Appends a b (generated_text n (run_of s)) → IsRunOf (made n) (generated_text n (run_of (made n))) a b
generated n s a b same =
    let P : Schedule → Type 0 = λ t. stop_of t ≡ None → NoneHas is_link_strange (run_of t).outcomes → AllCarry (first_world t.head) t.events → Appends a b (generated_text n (run_of t)) → IsRunOf (made n) (generated_text n (run_of (made n))) a b in
    subst P same (run_written (made n) (generated_text n (run_of (made n))) a b (made_form n) (made_timely n) (all_asked (made n).head (made n).events (made_fits n)))

-- no line that is read passes the limit of packets
no_line_floods : (h : Head) (at before : ℕ) (lines : List (List ℕ)) → FaultsAt (PassesLimit Packets) h at before lines → ⊥
no_line_floods h at before [] f = f
no_line_floods h at before (line ∷ lines) (inl x) = x.1
no_line_floods h at before (line ∷ lines) (inr x) = no_line_floods h at (before + 1) lines x.1

no_text_floods : (at : ℕ) (lines : List (List ℕ)) → LinesFaultAt (PassesLimit Packets) at lines → ⊥
no_text_floods at [] f = f
no_text_floods at (line ∷ lines) (inl x) = x.1
no_text_floods at (line ∷ lines) (inr x) = no_line_floods x.0 at 0 lines x.2

-- a limit that is met in reading is one
pub read_limit : (which : Which) (at : ℕ) (bytes : List ℕ) → IsFirstFault (AtLine at (PassesLimit which)) bytes → IsLimit which at bytes
read_limit Bytes at bytes f = f
read_limit Servers at bytes f = f
read_limit Sessions at bytes f = f
read_limit Events at bytes f = f
read_limit Packets at bytes f = absurd (no_text_floods at (lines_of bytes) f)

-- the status of a limit is that of a limit that was met in reading
pub limit_told : (e : ScheduleError) (which : Which) (at : ℕ) → schedule_status e ≡ status.Limit which at → e ≡ schedule.Limit which at
limit_told (schedule.BadLine line) which at h = absurd (cc h)
limit_told (schedule.Limit w n) which at h = cc h
limit_told (schedule.Skewed line earlier) which at h = absurd (cc h)
limit_told schedule.Memory which at h = absurd (cc h)

-- what holds of the bytes that were read holds of those that the source told
pub as_told : (left : Option (List ℕ)) (bytes : List ℕ) (P : List ℕ → Type 0) → IfSome left (λ xs. bytes ≡ xs) → P bytes → IfSome left P
as_told None bytes P e h = tt
as_told (Some xs) bytes P e h = subst P e h

-- four parts, one after another
pub parts_joined : (none a b c e o j s d : List ℕ) → none ≡ [] → a ≡ none ++ o → b ≡ a ++ j → c ≡ b ++ s → e ≡ c ++ d → e ≡ o ++ (j ++ (s ++ d))
parts_joined none a b c e o j s d hn ha hb hc he =
    he ∙ ap (λ (x : List ℕ). x ++ d) (hc ∙ ap (λ (x : List ℕ). x ++ s) (hb ∙ ap (λ (x : List ℕ). x ++ j) (ha ∙ ap (λ (x : List ℕ). x ++ o) hn)))
    ∙ append_assoc (o ++ j) s d ∙ append_assoc o j (s ++ d)

-- the counts of the last line
pub last_line : (o j s : List ℕ) (a b c x y z : ℕ) → a ≡ x → b ≡ y → c ≡ z → o ++ (j ++ (s ++ done_text a b c)) ≡ o ++ (j ++ (s ++ done_text x y z))
last_line o j s a b c x y z p q r =
    ap (λ n. o ++ (j ++ (s ++ done_text n b c))) p
    ∙ ap (λ n. o ++ (j ++ (s ++ done_text x n c))) q
    ∙ ap (λ n. o ++ (j ++ (s ++ done_text x y n))) r
