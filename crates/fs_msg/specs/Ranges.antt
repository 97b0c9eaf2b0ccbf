-- Which messages have a spelling.
use Rattle.fs_ident.specs.Ident.{IsId}
use Rattle.fs_map.specs.declared.piece.MapPiece.{MapPiece}
use Rattle.fs_record.specs.declared.record.Record.{Record}
use Rattle.fs_record.specs.declared.parcel.Parcel.{Parcel}
use Rattle.fs_record.specs.declared.led_end.Why.{Why}
use Rattle.fs_record.specs.declared.led_end.Why.TheVariants as why_
use Rattle.fs_record.specs.declared.led_end.LedEnd.{LedEnd}
use Rattle.fs_record.specs.declared.led_end.LedEnd.TheVariants as led_
use Rattle.fs_msg.specs.declared.lead.Lead.{Lead}
use Rattle.fs_msg.specs.declared.prepare.Prepare.{Prepare}
use Rattle.fs_msg.specs.declared.voted.Voted.{Voted}
use Rattle.fs_msg.specs.declared.decide.Decide.{Decide}
use Rattle.fs_msg.specs.declared.done.Done.{Done}
use Rattle.fs_msg.specs.declared.entry.Entry.{Entry}
use Rattle.fs_msg.specs.declared.end.End.{End}
use Rattle.fs_msg.specs.declared.end.End.TheVariants as end_
use Rattle.fs_msg.specs.declared.answer.Grant.{Grant}
use Rattle.fs_msg.specs.declared.answer.Answer.{Answer}
use Rattle.fs_msg.specs.declared.answer.Answer.TheVariants as answer_
use Rattle.fs_msg.specs.declared.client_msg.ClientMsg.{ClientMsg}
use Rattle.fs_msg.specs.declared.client_msg.ClientMsg.TheVariants as client_
use Rattle.fs_msg.specs.declared.peer_msg.PeerMsg.{PeerMsg}
use Rattle.fs_msg.specs.declared.peer_msg.PeerMsg.TheVariants as peer_
use Rattle.fs_msg.specs.declared.msg.Msg.{Msg}
use Rattle.fs_msg.specs.declared.msg.Msg.TheVariants as msg_
use Rattle.fs_wire.specs.Ranges.{FitsOne, FitsEight, FitsAlways, FitsOption, FitsList, FitsPair, FitsSession, FitsLease, FitsTransaction, FitsPathLease, FitsField, FitsValue, FitsOp, FitsReply, FitsUse, FitsRow, FitsNode, FitsNext, FitsEffect, FitsPart, FitsVote}

pub record FitsEntry (e : Entry) : Type 0 where
  pub n : FitsEight e.n
  pub op : FitsOp e.op
  pub reply : FitsReply e.reply
  pub uses : FitsList FitsUse e.uses

abbrev pub FitsEnd : End → Type 0
FitsEnd end_.All = Unit {0}
FitsEnd (end_.Wait blocker) = FitsLease blocker
FitsEnd (end_.Locked txn) = FitsTransaction txn
FitsEnd (end_.Moved prefix to) = IsId prefix × FitsOne to
FitsEnd (end_.NoIds dir) = IsId dir
FitsEnd (end_.Ended n missed until now) = FitsEight n × FitsLease missed × FitsEight until × FitsEight now

abbrev pub FitsWhy : Why → Type 0
FitsWhy (why_.Moved prefix to) = IsId prefix × FitsOne to
FitsWhy (why_.Wanted file) = IsId file
FitsWhy (why_.Frozen file txn) = IsId file × FitsTransaction txn
FitsWhy (why_.PathsOut given) = FitsPathLease given
FitsWhy why_.Changed = Unit {0}
FitsWhy why_.NoChild = Unit {0}

abbrev pub FitsLedEnd : LedEnd → Type 0
FitsLedEnd (led_.Done r) = FitsReply r
FitsLedEnd (led_.Ended missed until now) = FitsLease missed × FitsEight until × FitsEight now
FitsLedEnd (led_.Again w) = FitsWhy w

pub record FitsLead (m : Lead) : Type 0 where
  pub n : FitsEight m.n
  pub op : FitsOp m.op
  pub file : IsId m.file
  pub uses : FitsList FitsUse m.uses

pub record FitsPrepare (m : Prepare) : Type 0 where
  pub txn : FitsTransaction m.txn
  pub number : FitsOne m.number
  pub session : FitsSession m.session
  pub part : FitsPart m.part

pub record FitsVoted (m : Voted) : Type 0 where
  pub txn : FitsTransaction m.txn
  pub number : FitsOne m.number
  pub vote : FitsVote m.vote

pub record FitsDecide (m : Decide) : Type 0 where
  pub txn : FitsTransaction m.txn
  pub number : FitsOne m.number
  pub effects : FitsList FitsEffect m.effects

pub record FitsDone (m : Done) : Type 0 where
  pub txn : FitsTransaction m.txn
  pub number : FitsOne m.number

pub record FitsGrant (g : Grant) : Type 0 where
  pub no : FitsLease g.no
  pub field : FitsField g.field
  pub until : FitsEight g.until
  pub value : FitsValue g.value

abbrev pub FitsClientMessage : ClientMsg → Type 0
FitsClientMessage (client_.Ask items fresh) = FitsList (FitsPair FitsField FitsAlways) items × FitsOption IsId fresh
FitsClientMessage (client_.Renew pairs) = FitsList (FitsPair IsId FitsLease) pairs
FitsClientMessage (client_.Release pairs) = FitsList (FitsPair IsId FitsLease) pairs
FitsClientMessage (client_.Ship entries) = FitsList FitsEntry entries
FitsClientMessage (client_.Lead m) = FitsLead m

abbrev pub FitsAnswer : Answer → Type 0
FitsAnswer (answer_.Granted grants fresh e) = FitsList FitsGrant grants × FitsOption IsId fresh × FitsEnd e
FitsAnswer (answer_.Renewed rows e) = FitsList (FitsPair FitsLease (FitsOption FitsEight)) rows × FitsEnd e
FitsAnswer (answer_.Released count e) = FitsEight count × FitsEnd e
FitsAnswer (answer_.Shipped count e) = FitsEight count × FitsEnd e
FitsAnswer (answer_.Led e) = FitsLedEnd e
FitsAnswer (answer_.Recall wanted) = FitsLease wanted

pub record FitsRecord (r : Record) : Type 0 where
  pub node : FitsNode r.node
  pub next : FitsNext r.next

pub record FitsPiece (p : MapPiece) : Type 0 where
  pub prefix : IsId p.prefix
  pub given : FitsList (FitsPair IsId FitsAlways) p.given

pub record FitsParcel (p : Parcel) : Type 0 where
  pub prefix : IsId p.prefix
  pub piece : FitsPiece p.piece
  pub records : FitsList (FitsPair IsId FitsRecord) p.records
  pub rows : FitsList FitsRow p.rows

abbrev pub FitsPeerMessage : PeerMsg → Type 0
FitsPeerMessage (peer_.Prepare m) = FitsPrepare m
FitsPeerMessage (peer_.Vote m) = FitsVoted m
FitsPeerMessage (peer_.Decide m) = FitsDecide m
FitsPeerMessage (peer_.Done m) = FitsDone m
FitsPeerMessage (peer_.Parcel p) = FitsParcel p
FitsPeerMessage (peer_.PathAsk file parent) = IsId file × IsId parent
FitsPeerMessage (peer_.PathGrant given file path) = FitsPathLease given × IsId file × FitsList IsId path
FitsPeerMessage (peer_.PathNo file w) = IsId file × FitsWhy w
FitsPeerMessage (peer_.PathRecall given) = FitsPathLease given
FitsPeerMessage (peer_.PathRelease given) = FitsPathLease given

abbrev pub FitsMessage : Msg → Type 0
FitsMessage (msg_.Client m) = FitsClientMessage m
FitsMessage (msg_.Answer a) = FitsAnswer a
FitsMessage (msg_.Peer m) = FitsPeerMessage m
