use Rattle.std.proofs.Common.{◌≡◌, true, false, nat_eq, refl, sym, ◌∙◌}
use Rattle.std.specs.HashMap.{get}
use Rattle.mdb_proxies.proofs.Hands.{hands-on}
use Rattle.mdb_proxies.proofs.Freeing.{only-after}
use Rattle.mdb_proxies.proofs.Next.{best-goes, best-some, next-none}
use Rattle.mdb_proxies.proofs.Going.{goes-none, goes-step}
use Rattle.mdb_proxies.proofs.handing.ProxyState.go_on.Goals as goal

pub loop-at-init : goal.loop-at-init
loop-at-init g c = record {
  stands = c.requires.stands;
  sound = c.requires.sound;
  shares = refl;
  asks = refl;
  none = λ e. (refl, refl);
  only = c.requires.only;
  goes_on = goes-none c.args.moment c.args.self.now.shares.items c.args.self.now.books.asks.items c.args.self.now.log c.args.self.now.log refl;
}

pub loop-at-smaller : goal.loop-at-smaller
loop-at-smaller g c =
    let l = c.loop-at in
    let s = rw c.as_slice.ensures.value at c.in-Some.ensures in
    let ok = c.in-Ok.ensures.ok in
    (hands-on l.self.shares.items l.self.log c.hand_on-handed.new.log l.self.books.standing.items c.hand_on-handed.new.books.standing.items l.self.books.asks.items (λ r. get nat_eq l.self.books.known r)
    c.args.moment c.in-Some.at ok.0 c.in-Ok.reply s.0 (best-goes l.self.shares.items l.self.books.standing.items c.in-Some.at s) ok.1 ok.2 l.invariant.sound.keeps l.invariant.sound.within).fewer

pub loop-at-preserved : goal.loop-at-preserved
loop-at-preserved g c =
    let l = c.loop-at in
    let s = rw c.as_slice.ensures.value at c.in-Some.ensures in
    let ok = c.in-Ok.ensures.ok in
    let h = hands-on l.self.shares.items l.self.log c.hand_on-handed.new.log l.self.books.standing.items c.hand_on-handed.new.books.standing.items l.self.books.asks.items (λ r. get nat_eq l.self.books.known r)
    c.args.moment c.in-Some.at ok.0 c.in-Ok.reply s.0 (best-goes l.self.shares.items l.self.books.standing.items c.in-Some.at s) ok.1 ok.2 l.invariant.sound.keeps l.invariant.sound.within in
    record {
      stands = c.in-Ok.ensures.stands;
      sound = record { keeps = c.in-Ok.ensures.keeps; noted = c.in-Ok.ensures.noted; within = h.within };
      shares = l.invariant.shares;
      asks = c.in-Ok.ensures.asks ∙ l.invariant.asks;
      none = λ e. absurd (let z : true ≡ false = e in cc);
      only = only-after l.self.shares.items ok.2.entry l.self.books.standing.items c.hand_on-handed.new.books.standing.items l.freed c.in-Ok.more c.or-freed.result ok.2.after c.in-Ok.ensures.freed c.or-freed.ensures l.invariant.only;
      goes_on = goes-step c.args.moment c.args.self.now.shares.items l.self.shares.items c.args.self.now.books.asks.items l.self.books.asks.items c.args.self.now.log l.self.log c.hand_on-handed.new.log
          l.self.books.standing.items c.hand_on-handed.new.books.standing.items c.in-Some.at ok.0 c.in-Ok.reply (rw l.invariant.shares refl) (rw l.invariant.asks refl) l.invariant.goes_on l.invariant.sound.keeps.standing s ok.1 ok.2;
    }

pub returns-in-Err-clause-behind : goal.returns-in-Err-clause-behind
returns-in-Err-clause-behind g c =
    let l = c.loop-at in
    let s = rw c.as_slice.ensures.value at c.in-Some.ensures in
    rw c.in-Err.ensures.err.1 (sym (best-some l.self.shares.items l.self.books.standing.items c.in-Some.at s))

pub returns-clause-behind : goal.returns-clause-behind
returns-clause-behind g c =
    let l = c.loop-at in
    sym (next-none l.self.shares.items l.self.books.standing.items l.self.books.standing.items (rw c.as_slice.ensures.value at c.in_default.ensures))
