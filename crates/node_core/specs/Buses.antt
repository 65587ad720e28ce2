-- The list of a bus.
use Rattle.node_core.specs.Queues.{Queue}
use Rattle.node_core.specs.declared.bus_queue.BusQueue.{BusQueue}

-- what its frames are, how many leave and may wait, and those that do
abbrev pub queue_of : BusQueue → Queue
queue_of q = record {
  mtu = q.mtu;
  rate = q.rate;
  places = q.frames.places;
  waiting = q.frames.waiting.items;
}
