-- A run of a graph of streaming nodes that ended has the whole answer, or names a cause.
use Rattle.std.proofs.Common.{◌≡◌, ℕ, true, false, cond, List, [], ◌∷◌, Some, refl, sym, ap, subst, ◌∙◌, inl, inr}
use Rattle.std.specs.Prelude.{slice_get}
use Rattle.ps_frame.specs.Causes.{Cause, is_empty}
use Rattle.ps_frame.specs.Functions.{Functions, IsLawful}
use Rattle.ps_meaning.specs.Shape.{PhysicalBrokenBy, PhysicalIsLarge, PhysicalKind, PhysicalNode, Shape, filter_node, in_memory_sink, in_memory_source, independent_select, ordered_union, select_node, simple_projection, stream_map, streaming_slice, with_row_index}
use Rattle.ps_meaning.specs.Sound.{IsSound}
use Rattle.ps_options.specs.declared.options.Options.{Options}
use Rattle.ps_turns.specs.Pulls.{passes_limit, pulls}
use Rattle.ps_turns.specs.Results.{rows_fault}
use Rattle.ps_world.specs.Laws.{AllJustified, MakesFault, sent_at}
use Rattle.ps_world.specs.Opening.{Reaches, opening}
use Rattle.ps_world.specs.Phases.{after_open, blockers_in, with_phase}
use Rattle.ps_world.specs.Pipes.{is_input}
use Rattle.ps_world.specs.Promises.{IsAnswered, NamesCause}
use Rattle.ps_world.specs.Step.{Replays}
use Rattle.ps_world.specs.World.{Ending, Node, Record, World, claimed, closed, ended, faulty, finished, handed_in, opened, pulled, running, shape_of}
use Rattle.world_claims.proofs.ReachedFacts.{known_reached}
use Rattle.world_claims.specs.Numbering.{Known}
use Rattle.world_facts.proofs.ClaimedOnce.{replay_shape}
use Rattle.world_facts.proofs.CutOff.{both_true}
use Rattle.world_facts.proofs.FromFacts.{forward, piece_nodes}
use Rattle.world_laws.proofs.Answered.{in_shape}
use Rattle.world_laws.proofs.Endings.{Ends, ends_of, faults, finishes, goes_on}
use Rattle.world_laws.proofs.Induction.{opening_shape}
use Rattle.world_laws.proofs.OneChoice.{faulty_is_broken, large_by}
use Rattle.world_laws.proofs.Shapes.{updates_keep}
use Rattle.passing_pieces.proofs.LargeAnswers.{AreLawfulFor}
use Rattle.fault_origins.proofs.Results.{of_step}
use Rattle.fault_origins.proofs.Tasks.{reached_own}
use Rattle.orderly_worlds.proofs.Reaching.{fresh_reached, reached_more}
use Rattle.orderly_worlds.proofs.Stands.{stored_progress}
use Rattle.family_keeps.proofs.Served.{node_justified}
use Rattle.world_families.specs.Kinds.{IsStreaming}
use Rattle.streaming_ends.proofs.Finishing.{finished_done, finished_means}
use Rattle.streaming_answers.proofs.Faults.{Names, finds_none, handed_names, of_limit, pulled_names}
use Rattle.streaming_answers.specs.NoMaps.{StreamsNoMap}

-- a node that streams, with laws where it is a map
abbrev pub StreamsLawfully : Functions → PhysicalKind → Type 0
StreamsLawfully F kind = IsStreaming kind × AreLawfulFor F kind

pub by_laws : (F : Functions) (kind : PhysicalKind) → IsLawful F → IsStreaming kind → StreamsLawfully F kind
by_laws F (stream_map step) laws h = (h, laws)
by_laws F (in_memory_source t) laws h = (h, tt)
by_laws F (independent_select es) laws h = (h, tt)
by_laws F in_memory_sink laws h = (h, tt)
by_laws F ordered_union laws h = (h, tt)
by_laws F (streaming_slice offset n) laws h = (h, tt)
by_laws F (with_row_index name offset) laws h = (h, tt)
by_laws F (filter_node x) laws h = (h, tt)
by_laws F (select_node es extends) laws h = (h, tt)
by_laws F (simple_projection names) laws h = (h, tt)
by_laws F kind laws h = absurd h

pub without_maps : (F : Functions) (kind : PhysicalKind) → StreamsNoMap kind → StreamsLawfully F kind
without_maps F (stream_map step) h = absurd (let no : true ≡ false = h.1 in cc)
without_maps F (in_memory_source t) h = (h.0, tt)
without_maps F (independent_select es) h = (h.0, tt)
without_maps F in_memory_sink h = (h.0, tt)
without_maps F ordered_union h = (h.0, tt)
without_maps F (streaming_slice offset n) h = (h.0, tt)
without_maps F (with_row_index name offset) h = (h.0, tt)
without_maps F (filter_node x) h = (h.0, tt)
without_maps F (select_node es extends) h = (h.0, tt)
without_maps F (simple_projection names) h = (h.0, tt)
without_maps F kind h = absurd h.0

-- of streaming nodes a sink alone pulls
pub pulls_sink : (kind : PhysicalKind) → IsStreaming kind → pulls kind ≡ true → kind ≡ in_memory_sink
pulls_sink in_memory_sink h e = refl
pulls_sink (in_memory_source t) h e = absurd (let no : false ≡ true = e in cc)
pulls_sink (independent_select es) h e = absurd (let no : false ≡ true = e in cc)
pulls_sink ordered_union h e = absurd (let no : false ≡ true = e in cc)
pulls_sink (streaming_slice offset n) h e = absurd (let no : false ≡ true = e in cc)
pulls_sink (with_row_index name offset) h e = absurd (let no : false ≡ true = e in cc)
pulls_sink (filter_node x) h e = absurd (let no : false ≡ true = e in cc)
pulls_sink (select_node es extends) h e = absurd (let no : false ≡ true = e in cc)
pulls_sink (simple_projection names) h e = absurd (let no : false ≡ true = e in cc)
pulls_sink (stream_map step) h e = absurd (let no : false ≡ true = e in cc)
pulls_sink kind h e = absurd h

module _ (F : Functions) (shape : Shape) (o : Options) (sound : IsSound F shape) (streams : (n : ℕ) (p : PhysicalNode) → slice_get shape n ≡ Some p → StreamsLawfully F p.kind) where
  all_stream : (n : ℕ) (p : PhysicalNode) → slice_get shape n ≡ Some p → IsStreaming p.kind
  all_stream n p e = (streams n p e).0

  module _ (w : World) (r : Reaches F shape o w) where
    known : Known F w
    known = known_reached F shape o w sound r

    same_shape : shape_of w ≡ shape
    same_shape = replay_shape F (opening shape o) w r.0 r.1 ∙ opening_shape shape

    justified : AllJustified F (shape_of w) (sent_at w)
    justified n p e = node_justified F shape o w sound r n p e (all_stream n p (ap (λ ps. slice_get ps n) (sym same_shape) ∙ e))

    kind_of : (n : ℕ) (node : Node) → slice_get w.nodes n ≡ Some node → StreamsLawfully F node.node.kind
    kind_of n node at = streams n node.node (ap (λ ps. slice_get ps n) (sym same_shape) ∙ in_shape w n node at)

    names_at : (n : ℕ) (p : PhysicalNode) (c : Cause) → slice_get (shape_of w) n ≡ Some p → Names F shape o w sound r p c → NamesCause F shape c
    names_at n p c e (inl f) =
        (n, p, ap (λ ps. slice_get ps n) (sym same_shape) ∙ e, f.0, inl (subst (λ x. PhysicalBrokenBy F x n c) same_shape (faulty_is_broken F (shape_of w) (sent_at w) (forward F w known.facts) justified n p c e f.1)))
    names_at n p c e (inr f) =
        (n, p, ap (λ ps. slice_get ps n) (sym same_shape) ∙ e, ap (λ (x : Cause). x.node) f.0, inr (f.0, subst (λ x. PhysicalIsLarge F x n) same_shape (large_by F (shape_of w) (sent_at w) (forward F w known.facts) justified n p e f.1)))

    origin : (j : Record) (n : ℕ) (p : PhysicalNode) (c : Cause) → slice_get (shape_of w) n ≡ Some p → MakesFault F w j n c → c.node ≡ p.origin
    origin j n p c e m = of_step F w j n p c known (reached_own F shape o w sound r) e m

    names : (j : Record) (n : ℕ) (c : Cause) → MakesFault F w j n c → NamesCause F shape c
    names (opened phase) n c m =
        let s = m.1.0 in
        let same : shape_of s ≡ shape = updates_keep F w s m.1.1 ∙ same_shape in
        absurd (finds_none F s n c (λ node at. all_stream n node.node (ap (λ ps. slice_get ps n) (sym same) ∙ in_shape s n node at)) m.1.2)
    names (handed_in k i number worker handed) n c m =
        let at = piece_nodes F w known.facts m.1 m.2 in
        let there : slice_get w.nodes n ≡ Some at.0 = ap (slice_get w.nodes) (sym m.3) ∙ at.1 in
        let e = in_shape w n at.0 there in
        let kind = kind_of n at.0 there in
        names_at n at.0.node c e (handed_names F shape o w sound r n at.0 there kind.0 kind.1 c (origin (handed_in k i number worker handed) n at.0.node c e m) m.1 m.2 m.3 m.4)
    names (pulled k i number) n c m =
        let st = m.2 in
        let node = st.0 in
        let there : slice_get w.nodes n ≡ Some node = ap (slice_get w.nodes) (sym m.0) ∙ st.1.0 in
        let e = in_shape w n node there in
        let limit = of_limit F shape o w sound r (passes_limit node.node.kind i (stored_progress node i st.4.1)) w.ending (rows_fault node.node) c st.1.2 (sym (ap (λ (x : World). x.ending) st.4.8) ∙ m.3) in
        let input = ap (λ j. is_input j i st.4.0) (sym m.0) ∙ (both_true (is_input k i st.4.0) st.4.0.in_phase st.4.3).0 in
        names_at n node.node c e (pulled_names F shape o w sound r n i node there (pulls_sink node.node.kind (kind_of n node there).0 st.2) st.4.0 st.4.1 st.4.2 input st.4.5 limit.0 c limit.1)
    names (claimed k i number worker) n c m = absurd m
    names (closed k) n c m = absurd m
    names (ended phase) n c m = absurd m

  same_cause : (e : Ending) (c d : Cause) → e ≡ faulty c → e ≡ faulty d → c ≡ d
  same_cause e c d a b = let q : faulty c ≡ faulty d = sym a ∙ b in cc

  last_ending : (s : World) (phase : ℕ) → blockers_in s ≡ [] → (after_open s phase).ending ≡ finished
  last_ending s phase none = ap (λ b. (cond b (record s { ending = finished }) (with_phase s)).ending) (ap is_empty none)

  of_end : (w v : World) (j : Record) → Reaches F shape o w → Ends F w j v → (c : Cause) → v.ending ≡ faulty c → NamesCause F shape c
  of_end w v j r (goes_on e) c f = absurd (let no : running ≡ faulty c = sym e ∙ f in cc)
  of_end w v j r (finishes s phase shut u rest none e) c f = absurd (let no : finished ≡ faulty c = sym (ap (λ (x : World). x.ending) e ∙ last_ending s phase none) ∙ f in cc)
  of_end w v j r (faults n d m e) c f = subst (λ x. NamesCause F shape x) (same_cause v.ending d c e f) (names w r j n d m)

  causes_run : (w v : World) (js : List Record) → Reaches F shape o w → Replays F w js v → ((c : Cause) → w.ending ≡ faulty c → NamesCause F shape c) → (c : Cause) → v.ending ≡ faulty c → NamesCause F shape c
  causes_run w v [] r e h = λ c f. h c (ap (λ (x : World). x.ending) (sym e) ∙ f)
  causes_run w v (j ∷ js) r st h = causes_run st.0 v js (reached_more F shape o w st.0 j r st.1) st.2 (of_end w st.0 j r (ends_of F w st.0 j st.1))

  pub runs_answered : (w : World) → Reaches F shape o w → IsAnswered F shape w
  runs_answered w r = (
    (λ e. (finished_means F shape o w sound all_stream r e, finished_done F shape o w sound all_stream r e)),
    causes_run (opening shape o) w r.0 (fresh_reached F shape o) r.1 (λ c e. absurd (let no : running ≡ faulty c = e in cc)),
  )
