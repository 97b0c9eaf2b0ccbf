-- Leases stay true where some are asked back and go back: none goes on which a path rests that was given out.
use Rattle.std.proofs.Common.{◌≡◌, ◌∙◌, Bool, true, false, not, List, ℕ, refl, sym, ap, subst, cond}
use Rattle.std.specs.Prelude.{◌&&◌, Some, slice_get}
use Rattle.std.specs.List.{filter}
use Rattle.fs_ident.specs.In.{In}
use Rattle.fs_ident.specs.Ident.{same}
use Rattle.fs_ident.specs.declared.actor.PathNo.{PathNo}
use Rattle.fs_ident.proofs.Same.{same_self}
use Rattle.fs_ident.proofs.Standing.{In-filter, In-got, In-mapped}
use Rattle.fs_moderows.proofs.Witnesses.{In_any, In_filtered}
use Rattle.fs_msg.specs.declared.server_note.ServerNote.{ServerNote}
use Rattle.fs_path.specs.Leases.{PathLease, goes_over, has_no}
use Rattle.fs_path.specs.Returns.{after_recalled, asked_back, goes_back, held_after, is_into, is_needed, is_of, recalled, without_no}
use Rattle.fs_path.specs.Tables.{is_leaving, issued_to, lease_of, leaving}
use Rattle.fs_path.specs.declared.having.Having.{Having}
use Rattle.fs_path.specs.declared.recalled.Recalled.{Recalled}
use Rattle.fs_path.specs.declared.recalled.Recalled.TheVariants.{Release, Down, Unheld}
use Rattle.fs_server.specs.PathSteps.{asks_back_in, goes_down, is_out_to, path_back, path_recall_step, path_release_step}
use Rattle.fs_server.specs.Server.{Stepped, strange}
use Rattle.fs_server.specs.declared.state.Server.{Server}
use Rattle.fs_serial.specs.Cluster.{Cluster}
use Rattle.fs_serial.specs.Paths.{HoldsPath, PathsHold, upwards}
use Rattle.fs_serial.specs.Runs.{held_by}
use Rattle.fs_serial.proofs.Paths.Alike.{KeepsFor, keeps_same, true_alike}
use Rattle.fs_serial.proofs.Paths.Chains.{begins_in}
use Rattle.fs_serial.proofs.Paths.SameSpace.{KeepsTrue, stays_true}
use Rattle.fs_serial.proofs.Paths.Taken.{held_given}

-- ## What is needed stays

unasked : (a b : Bool) → b ≡ true → not (a && not b) ≡ true
unasked true true e = refl
unasked false true e = refl
unasked a false e = absurd (cc e)

pub needed_stays : (asked : Having → Bool) (issued : List PathLease) (held : List Having) (h : Having) → In h held → is_needed issued h ≡ true
    → In (asked_back asked h) (held_after asked issued held)
needed_stays asked issued held h i e =
    In-mapped (asked_back asked) h (filter (λ x. not (goes_back asked issued x)) held)
    (In_filtered (λ x. not (goes_back asked issued x)) held h i (unasked (asked h) (is_needed issued h) e))

-- leaving or not, it is the same lease
pub same_lease : (asked : Having → Bool) (h : Having) → lease_of (asked_back asked h) ≡ lease_of h
same_lease asked h = by (asked h)
  where
    by : (b : Bool) → lease_of (cond b (leaving h) h) ≡ lease_of h
    by true = refl
    by false = refl

-- ## Steps in which some go back

module _ (c : Cluster) (k : ℕ) (s : Server) (h : PathsHold c) (at : slice_get c.servers k ≡ Some s) where
  -- a lease over the files of one that was given out is needed
  needed : (issued : List PathLease) (l : PathLease) (files : List (List ℕ)) → In l issued → ((f : List ℕ) → In f files → In f l.path)
      → (p : HoldsPath s files) → is_needed issued p.lease ≡ true
  needed issued l files i of p =
      let g = held_given c k s p.lease h at p.held in
      let first : In (lease_of p.lease).file (upwards (lease_of p.lease)) = begins_in (lease_of p.lease).file (upwards (lease_of p.lease)) g.right.begins in
      let over : goes_over (lease_of p.lease).file l ≡ true =
      In_any (λ f. same f (lease_of p.lease).file) l.path (lease_of p.lease).file
      (of (lease_of p.lease).file (subst (λ x. In (lease_of p.lease).file x) p.path first)) (same_self (lease_of p.lease).file) in
      In_any (goes_over (lease_of p.lease).file) issued l i over

  -- what is given out rests on what is left
  rests_on_left : (asked : Having → Bool) (issued : List PathLease) (t : Server) (l : PathLease) → t.records ≡ s.records
      → t.paths.frozen ≡ s.paths.frozen → t.paths.held ≡ held_after asked issued s.paths.held → In l issued
      → KeepsFor s t l
  rests_on_left asked issued t l records frozen held i =
      let alike = keeps_same s (record t { paths = record t.paths { held = s.paths.held } }) l records refl frozen in
      record {
        here = alike.here;
        held = λ files of p. record {
          lease = asked_back asked p.lease;
          held = subst (In (asked_back asked p.lease)) (sym held) (needed_stays asked issued s.paths.held p.lease p.held (needed issued l files i of p));
          path = ap upwards (same_lease asked p.lease) ∙ p.path;
        };
        kept = alike.kept;
      }

  pub left_true : (asked : Having → Bool) (issued : List PathLease) (x : Stepped) → x.server.records ≡ s.records
      → x.server.paths.frozen ≡ s.paths.frozen → x.server.paths.issued ≡ issued → ((l : PathLease) → In l issued → In l s.paths.issued)
      → x.server.paths.held ≡ held_after asked issued s.paths.held → KeepsTrue c x
  left_true asked issued x records frozen out fewer held l i =
      let j : In l issued = subst (In l) out i in
      true_alike (held_by c) (held_by c) c.journal c.journal s x.server l (λ f m. refl) (λ f d. d)
      (rests_on_left asked issued x.server l records frozen held j) (h.truth s (In-got c.servers k s at) l (fewer l j))

  -- ## A path is asked back

  down_true : (number : PathNo) (r : Recalled) → KeepsTrue c (goes_down number r (record s { paths = after_recalled number s.paths }))
  down_true number (Release to) =
      left_true (is_of number) s.paths.issued (goes_down number (Release to) (record s { paths = after_recalled number s.paths }))
      refl refl refl (λ l i. i) refl
  down_true number (Down leases) =
      left_true (is_of number) s.paths.issued (goes_down number (Down leases) (record s { paths = after_recalled number s.paths }))
      refl refl refl (λ l i. i) refl
  down_true number Unheld =
      left_true (is_of number) s.paths.issued (goes_down number Unheld (record s { paths = after_recalled number s.paths }))
      refl refl refl (λ l i. i) refl

  pub recalled_true : (number : PathNo) → KeepsTrue c (path_recall_step number s)
  recalled_true number = down_true number (recalled number s.paths)

  -- ## One comes back

  back_true : (number : PathNo) → KeepsTrue c (path_back number s)
  back_true number =
      left_true is_leaving (without_no number s.paths.issued) (path_back number s) refl refl refl
      (λ l i. In-filter (λ x. not (has_no number x)) l s.paths.issued i) refl

  pub released_true : (from : ℕ) (number : PathNo) → KeepsTrue c (path_release_step from number s)
  released_true from number = by (is_out_to from (issued_to number s.paths.issued))
    where
      by : (b : Bool) → KeepsTrue c (cond b (path_back number s) (strange s))
      by true = back_true number
      by false = stays_true c k s (strange s) h at refl refl

  -- ## All over what is to go are asked back

  pub given_back_true : (prefix : List ℕ) (n : ServerNote) → KeepsTrue c (asks_back_in prefix n s)
  given_back_true prefix n = left_true (is_into s.map s.me prefix) s.paths.issued (asks_back_in prefix n s) refl refl refl (λ l i. i) refl
