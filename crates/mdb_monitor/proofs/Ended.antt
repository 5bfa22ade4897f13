-- A check that ended is its row, and the monitor stands for the items with it.
use Rattle.std.proofs.Common.{ℕ, ◌≡◌, Bool, true, false, Some, None, if◌then◌else◌, List, ◌∷◌, refl, sym, ap, ◌∙◌}
use Rattle.mdb_events.specs.declared.sdam.SdamEvent.{SdamEvent}
use Rattle.mdb_hello.specs.declared.response.HelloReply.{HelloReply}
use Rattle.mdb_monitor.specs.declared.check.CheckResult.{CheckResult}
use Rattle.mdb_monitor.specs.declared.check.CheckResult.TheVariants.{Ok, Err, Cancelled}
use Rattle.mdb_monitor.specs.declared.check.Finish.{Finish}
use Rattle.mdb_monitor.specs.declared.check.Report.{Report}
use Rattle.mdb_monitor.specs.declared.check.Next.{Next}
use Rattle.mdb_monitor.specs.declared.monitor.MonitorCore.{MonitorCore}
use Rattle.mdb_monitor.specs.Average.{mean, average_of}
use Rattle.mdb_monitor.specs.Items.{MonitorItem, ended, since, is_running, fresh_of, version_of, connection_of, connection_with, samples}
use Rattle.mdb_monitor.specs.Endings.{event_of, report_of, next_of, finish_row}
use Rattle.mdb_monitor.specs.Standing.{Fits, StandsFor, known_connection, known_version, known_average, says_more}
use Rattle.mdb_monitor.specs.Sessions.{average_after, knowledge_after}
use Rattle.mdb_monitor.proofs.Average.{mean-is}
use Rattle.mdb_monitor.proofs.Success.{samples_after, average-kept}

some-of : (b : Bool) (x fresh : ℕ) → (if b then Some x else None) ≡ Some fresh → fresh ≡ x
some-of true x fresh e = cc
some-of false x fresh e = absurd (cc)

-- the check that runs has the fresh number of the items
fresh-is : (m : MonitorCore) (xs : List MonitorItem) (fresh : ℕ) → Fits m xs → m.running ≡ Some fresh → fresh ≡ fresh_of xs
fresh-is m xs fresh f run = some-of (is_running xs) (fresh_of xs) fresh (sym f.running ∙ run)

-- the average after a check that succeeded is that of the samples
average-now : (m : MonitorCore) (xs : List MonitorItem) (d : ℕ) (reply : HelloReply) (more : Bool) → Fits m xs → average_of (samples m.setting.allow_streaming (ended d (Ok reply more) ∷ xs)) ≡ Some (average_after m.setting.allow_streaming m.knowledge d)
average-now m xs d reply more f =
    let s : Bool = m.setting.allow_streaming in
    ap (λ k. average_of (samples_after s k (version_of xs) d (samples s xs))) (sym f.connection)
    ∙ ap (λ v. average_of (samples_after s (known_connection m.knowledge) v d (samples s xs))) (sym f.version)
    ∙ average-kept s m.knowledge d (samples s xs) (sym f.average)

succeeded : (m n : MonitorCore) (xs : List MonitorItem) (fresh d : ℕ) (reply : HelloReply) (more : Bool) → Fits m xs → m.running ≡ Some fresh → n.setting ≡ m.setting → n.running ≡ None → n.knowledge ≡ knowledge_after m.setting.allow_streaming m.knowledge fresh d (Ok reply more) → Fits n (ended d (Ok reply more) ∷ xs)
succeeded m n xs fresh d reply more f run same idle known = record {
  connection = ap known_connection known ∙ ap (λ k. Some (connection_with k fresh reply)) f.connection ∙ ap (λ k. Some (connection_with (connection_of xs) k reply)) (fresh-is m xs fresh f run);
  version = ap known_version known;
  average = ap known_average known ∙ sym (average-now m xs d reply more f) ∙ ap (λ s. average_of (samples s.allow_streaming (ended d (Ok reply more) ∷ xs))) (sym same);
  more = ap says_more known;
  running = idle;
}

pub ended-stands : (m n : MonitorCore) (h : List MonitorItem) (fresh d : ℕ) (result : CheckResult) → StandsFor m h → m.running ≡ Some fresh → n.setting ≡ m.setting → n.running ≡ None → n.knowledge ≡ knowledge_after m.setting.allow_streaming m.knowledge fresh d result → StandsFor n (ended d result ∷ h)
ended-stands m n h fresh d (Ok reply more) f run same idle known = succeeded m n (since h) fresh d reply more f run same idle known
ended-stands m n h fresh d (Err error) f run same idle known = record { connection = ap known_connection known; version = ap known_version known; average = ap known_average known; more = ap says_more known; running = idle }
ended-stands m n h fresh d (Cancelled error) f run same idle known = record { connection = ap known_connection known; version = ap known_version known; average = ap known_average known; more = ap says_more known; running = idle }

report-same : (m : MonitorCore) (xs : List MonitorItem) (d : ℕ) (result : CheckResult) → Fits m xs → report_of (average_after m.setting.allow_streaming m.knowledge d) result ≡ report_of (mean (samples m.setting.allow_streaming (ended d result ∷ xs))) result
report-same m xs d (Ok reply more) f = ap (λ a. report_of a (Ok reply more)) (sym (mean-is _ _ (average-now m xs d reply more f)))
report-same m xs d (Err error) f = refl
report-same m xs d (Cancelled error) f = refl

event-same : (m : MonitorCore) (xs : List MonitorItem) (fresh d : ℕ) (result : CheckResult) → Fits m xs → m.running ≡ Some fresh → event_of m.setting (known_connection m.knowledge) (known_version m.knowledge) fresh d result ≡ event_of m.setting (connection_of xs) (version_of xs) (fresh_of xs) d result
event-same m xs fresh d result f run =
    ap (λ k. event_of m.setting k (known_version m.knowledge) fresh d result) f.connection
    ∙ ap (λ v. event_of m.setting (connection_of xs) v fresh d result) f.version
    ∙ ap (λ k. event_of m.setting (connection_of xs) (version_of xs) k d result) (fresh-is m xs fresh f run)

pub ended-row : (m : MonitorCore) (xs : List MonitorItem) (fresh d : ℕ) (result : CheckResult) (available : Bool) (event : SdamEvent) (report : Report) (next : Next) → Fits m xs → m.running ≡ Some fresh → event ≡ event_of m.setting (known_connection m.knowledge) (known_version m.knowledge) fresh d result → report ≡ report_of (average_after m.setting.allow_streaming m.knowledge d) result → next ≡ next_of result available m.setting.allow_streaming → (let f : Finish = record { event = event; report = report; next = next } in f ≡ finish_row m.setting xs d result available)
ended-row m xs fresh d result available event report next f run e r n =
    let e' : event ≡ event_of m.setting (connection_of xs) (version_of xs) (fresh_of xs) d result = e ∙ event-same m xs fresh d result f run in
    let r' : report ≡ report_of (mean (samples m.setting.allow_streaming (ended d result ∷ xs))) result = r ∙ report-same m xs d result f in
    λ i. record { event = e' i; report = r' i; next = n i }
