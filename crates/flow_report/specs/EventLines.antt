-- The line of each event, without a newline.
use Rattle.std.specs.Prelude.{ℕ, zero, suc, Bool, true, false, List, [], ◌∷◌, ◌++◌, map, codes, decimal}
use Rattle.std.specs.List.{join_with_byte}
use Rattle.flow_item.specs.declared.item.Id.{Id}
use Rattle.flow_item.specs.declared.item.Item.{Item}
use Rattle.flow_item.specs.declared.event.Event.{Event}
use Rattle.flow_item.specs.declared.event.Event.TheVariants as E
use Rattle.flow_item.specs.declared.event.Link.{Link}
use Rattle.flow_item.specs.declared.event.Land.{Land}
use Rattle.flow_item.specs.declared.event.Land.TheVariants as L
use Rattle.flow_item.specs.declared.event.Cause.{Cause}
use Rattle.flow_item.specs.declared.event.Cause.TheVariants as C
use Rattle.flow_item.specs.declared.event.Ended.{Ended}
use Rattle.flow_item.specs.declared.event.Ended.TheVariants as Z
use Rattle.flow_item.specs.declared.event.PutAnswer.{PutAnswer}
use Rattle.flow_item.specs.declared.event.PutAnswer.TheVariants.{Accepted, Refused}
use Rattle.flow_report.specs.Words.{line, numbers}
use Rattle.flow_report.specs.Values.{value_text, messages_text}

abbrev pub land_word : Land → List ℕ
land_word L.Kept = codes "kept"
land_word L.Eaten = codes "eaten"
land_word L.Lost = codes "lost"
land_word L.Over = codes "over"

abbrev pub cause_words : Cause → List (List ℕ)
cause_words (C.Busy limit) = codes "busy" ∷ decimal limit ∷ []
cause_words C.Set = codes "set" ∷ []
cause_words C.Duplicate = codes "duplicate" ∷ []
cause_words (C.Full capacity) = codes "full" ∷ decimal capacity ∷ []

abbrev pub answer_words : PutAnswer → List (List ℕ)
answer_words (Accepted number land) = codes "accepted" ∷ decimal number ∷ land_word land ∷ []
answer_words (Refused cause) = cause_words cause

abbrev pub ended_word : Ended → List ℕ
ended_word Z.Out = codes "out"
ended_word Z.Lost = codes "lost"
ended_word Z.Won = codes "won"
ended_word Z.Failed = codes "failed"

abbrev pub link_words : Link → List (List ℕ)
link_words l = numbers (l.edge ∷ l.from ∷ l.to ∷ l.port ∷ [])

abbrev pub item_words : Item → List (List ℕ)
item_words i = decimal i.tag ∷ value_text i.val ∷ []

abbrev pub id_text : Id → List ℕ
id_text i = decimal i.node ++ 46 ∷ decimal i.no

abbrev pub parts_text : List Id → List ℕ
parts_text is = join_with_byte 44 (map id_text is)

abbrev pub put_words : ℕ → ℕ → ℕ → ℕ → PutAnswer → List ℕ → List (List ℕ)
put_words c n port tag answer value = codes "put" ∷ numbers (c ∷ n ∷ port ∷ tag ∷ []) ++ answer_words answer ++ value ∷ []

abbrev pub event_words : Event → List (List ℕ)
event_words (E.Put c n port tag val answer) = put_words c n port tag answer (value_text val)
event_words (E.Act c n) = codes "act" ∷ numbers (c ∷ n ∷ [])
event_words (E.Leave c) = codes "leave" ∷ numbers (c ∷ [])
event_words (E.Cancel c n dropped) = codes "cancel" ∷ numbers (c ∷ n ∷ dropped ∷ [])
event_words (E.Give l i number land) = codes "give" ∷ link_words l ++ numbers (i.id.no ∷ number ∷ []) ++ land_word land ∷ item_words i
event_words (E.Refuse l i) = codes "refuse" ∷ link_words l ++ numbers (i ∷ [])
event_words (E.None l) = codes "none" ∷ link_words l
event_words (E.Hold l i number) = codes "hold" ∷ link_words l ++ numbers (i.id.no ∷ number ∷ []) ++ item_words i
event_words (E.Take l i) = codes "take" ∷ link_words l ++ numbers (i ∷ [])
event_words (E.Free l i) = codes "free" ∷ link_words l ++ numbers (i ∷ [])
event_words (E.Start w n i) = codes "start" ∷ numbers (w ∷ n ∷ i ∷ [])
event_words (E.End w n i first outs) = codes "end" ∷ numbers (w ∷ n ∷ i ∷ first ∷ []) ++ messages_text outs ∷ []
event_words (E.Back w n i first outs) = codes "back" ∷ numbers (w ∷ n ∷ i ∷ first ∷ []) ++ messages_text outs ∷ []
event_words (E.Form n number parts) = codes "form" ∷ numbers (n ∷ number ∷ []) ++ parts_text parts ∷ []
event_words (E.Split n i first outs) = codes "split" ∷ numbers (n ∷ i ∷ first ∷ []) ++ messages_text outs ∷ []
event_words (E.Shut n i ended) = codes "shut" ∷ numbers (n ∷ i ∷ []) ++ ended_word ended ∷ []
event_words (E.Idle n) = codes "idle" ∷ numbers (n ∷ [])

abbrev pub event_line : Event → List ℕ
event_line e = line (event_words e)

-- what stands before the part at this place
abbrev pub separator : ℕ → List ℕ
separator zero = []
separator (suc n) = 44 ∷ []

abbrev pub is_put : Event → Bool
is_put (E.Put c n port tag val answer) = true
is_put e = false

-- a put, an act, a leave or a cancel
abbrev pub is_of_caller : Event → Bool
is_of_caller (E.Put c n port tag val answer) = true
is_of_caller (E.Act c n) = true
is_of_caller (E.Leave c) = true
is_of_caller (E.Cancel c n dropped) = true
is_of_caller e = false

abbrev pub is_over_edge : Event → Bool
is_over_edge (E.Give l i number land) = true
is_over_edge (E.Refuse l i) = true
is_over_edge (E.None l) = true
is_over_edge (E.Hold l i number) = true
is_over_edge (E.Take l i) = true
is_over_edge (E.Free l i) = true
is_over_edge e = false
